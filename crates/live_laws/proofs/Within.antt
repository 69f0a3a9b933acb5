-- Commands of which each is among others are counted no more often than those.
use Rattle.std.proofs.Common.{◌≡◌, ◌≤◌, ◌⊎◌, zero, suc, Bool, true, false, List, [], ◌∷◌, ◌++◌, inl, inr, ap, sym, ◌∙◌, subst, arith}
use Rattle.std.specs.Prelude.{Contains}
use Rattle.std.specs.List.{AllByRecursion}
use Rattle.std.proofs.lemmas.Bool.Decides.{nat_tests}
use Rattle.game_trait.specs.declared.command.Command.{Command}
use Rattle.game_trait.specs.Count.{times}
use Rattle.game_trait.specs.Keys.{NamesDiffer, same_name}
use Rattle.game_trait.proofs.Counts.{times-append}

-- the element is one of these
unfoldable pub IsIn : {X : Type 0} → X → List X → Type 0
IsIn x [] = ⊥
IsIn x (y ∷ ys) = (y ≡ x) ⊎ IsIn x ys

pub is-in : {X : Type 0} (ys : List X) (x : X) → Contains ys x → IsIn x ys
unfolding IsIn
is-in [] x (i, lt, at) = absurd (omega arith)
is-in (y ∷ ys) x (zero, lt, at) = inl at
is-in (y ∷ ys) x (suc i, lt, at) = inr (is-in ys x (i, omega arith, at))

-- it stands between two parts of them
parted : {X : Type 0} (x : X) (ys : List X) → IsIn x ys → (front : List X) × (back : List X) × (ys ≡ front ++ x ∷ back)
unfolding IsIn
parted x [] h = absurd h
parted {X} x (y ∷ ys) (inl e) = ([], ys, ap (λ (z : X). z ∷ ys) e)
parted {X} x (y ∷ ys) (inr h) = let m = parted x ys h in (y ∷ m.0, m.1, ap (λ (l : List X). y ∷ l) m.2)

-- another one is one of the others
in-rest : {X : Type 0} (x z : X) (front back : List X) → (x ≡ z → ⊥) → IsIn z (front ++ x ∷ back) → IsIn z (front ++ back)
unfolding IsIn
in-rest x z [] back apart (inl e) = absurd (apart e)
in-rest x z [] back apart (inr h) = h
in-rest x z (y ∷ front) back apart (inl e) = inl e
in-rest x z (y ∷ front) back apart (inr h) = inr (in-rest x z front back apart h)

own-name : (x : Command) → same_name x x ≡ true
unfolding same_name
own-name x = grind (arith, nat_tests)

other : (x z : Command) → same_name x z ≡ false → x ≡ z → ⊥
other x z h e = let k = sym (own-name x) ∙ ap (same_name x) e ∙ h in cc

rest-in : (x : Command) (xs front back : List Command) → AllByRecursion (λ y. same_name x y ≡ false) xs → AllByRecursion (λ z. IsIn z (front ++ x ∷ back)) xs → AllByRecursion (λ z. IsIn z (front ++ back)) xs
rest-in x [] front back apart all = tt
rest-in x (z ∷ xs) front back apart all = (in-rest x z front back (other x z apart.0) all.0, rest-in x xs front back apart.1 all.1)

pub times-within : (p : Command → Bool) (xs ys : List Command) → NamesDiffer xs → AllByRecursion (λ z. IsIn z ys) xs → times p xs ≤ times p ys
unfolding times NamesDiffer
times-within p [] ys differ all = omega arith
times-within p (x ∷ xs) ys differ all =
    let m = parted x ys all.0 in
    let fewer = times-within p xs (m.0 ++ m.1) differ.1 (rest-in x xs m.0 m.1 differ.0 (subst (λ (l : List Command). AllByRecursion (λ z. IsIn z l) xs) m.2 all.1)) in
    let count = ap (times p) m.2 ∙ times-append p m.0 (x ∷ m.1) in
    let others = times-append p m.0 m.1 in
    omega arith
