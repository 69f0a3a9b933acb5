-- Commands with different names, and one more that is found by its name.
use Rattle.std.proofs.Common.{◌≡◌, refl, ap, sym, subst, ℕ, zero, suc, ◌<◌, Bool, true, false, cond, not, ◌||◌, List, [], ◌∷◌, ◌++◌, map, length, get_or, take, Some, None, arith}
use Rattle.std.specs.Prelude.{find}
use Rattle.std.specs.List.{list_any, slice_get, Contains, AllByRecursion}
use Rattle.std.proofs.lemmas.List.Elements.{Contains-get_or, Contains-append_right}
use Rattle.std.specs.Option.{is_some}
use Rattle.std.proofs.lemmas.Bool.{or_parts, false≢true}
use Rattle.std.proofs.lemmas.Bool.Decides.{nat_tests}
use Rattle.game_trait.specs.declared.command.Command.{Command}
use Rattle.game_trait.specs.Keys.{is_named, same_name, NamesDiffer}
use Rattle.game_trait.specs.CommandList.{command_named, has_command, name_of}
use Rattle.game_trait.specs.NameTree.{has_name}
use Rattle.game_trait.proofs.KeyOrder.{same_name-sym}
use Rattle.game_trait.proofs.Lists.{all-push, all-first, all-at}

-- a command is found exactly where there is one
pub found-has : (commands : List Command) (from number : ℕ) → is_some (command_named commands from number) ≡ has_command commands from number
found-has [] from number = refl
found-has (y ∷ ys) from number =
    elim (is_named from number y) as (λ v. is_some (cond v (Some y) (command_named ys from number)) ≡ v || has_command ys from number)
    [ true ↦ refl | false ↦ found-has ys from number ]

-- what is found in a list is in it
find-Contains : {X : Type 0} (test : X → Bool) (xs : List X) (x : X) → find test xs ≡ Some x → Contains xs x
find-Contains test [] x e = absurd cc
find-Contains test (y ∷ ys) x e =
    elim (test y) as (λ v. cond v (Some y) (find test ys) ≡ Some x → Contains (y ∷ ys) x) [
      | true ↦ λ h. (let same : y ≡ x = cc in subst (Contains (y ∷ ys)) same (Contains-get_or (y ∷ ys) 0 y (omega arith)))
      | false ↦ λ h. Contains-append_right (y ∷ []) ys x (find-Contains test ys x h)
    ]
    e

-- a command that is found is there
pub command_named-Contains : (commands : List Command) (from number : ℕ) (x : Command) → command_named commands from number ≡ Some x → Contains commands x
command_named-Contains commands from number x e = find-Contains (is_named from number) commands x e

-- two commands of different names aren't found under one
other-name : (x y : Command) (from number : ℕ) → is_named x.from x.number y ≡ false → is_named from number y ≡ true → is_named from number x ≡ false
other-name x y from number other here = grind (arith, nat_tests)

-- a command that has a name is found under it
named-so : (y : Command) (from number : ℕ) → Some (name_of y) ≡ Some (from, number) → is_named from number y ≡ true
named-so y from number e =
    let same : name_of y ≡ (from, number) = cc in
    let mirror : y.from ≡ from = ap (λ (p : ℕ × ℕ). p.0) same in
    let named : y.number ≡ number = ap (λ (p : ℕ × ℕ). p.1) same in
    grind (arith, nat_tests)

-- and the others aren't
other-named :
    (y : Command) (zs : List Command) (from number at : ℕ) → AllByRecursion (λ z. same_name y z ≡ false) zs
    → slice_get (map name_of zs) at ≡ Some (from, number) → is_named from number y ≡ false
unfolding same_name
other-named y [] from number at h e = absurd cc
other-named y (z ∷ zs) from number zero h e = other-name y z from number h.0 (named-so z from number e)
other-named y (z ∷ zs) from number (suc at) h e = other-named y zs from number at h.1 e

-- the command of a name stands where the name does
pub named-command :
    (commands : List Command) (from number at : ℕ) (d : Command) → NamesDiffer commands
    → slice_get (map name_of commands) at ≡ Some (from, number)
    → command_named commands from number ≡ Some (get_or commands at d)
unfolding NamesDiffer
named-command [] from number at d differ e = absurd cc
named-command (y ∷ ys) from number zero d differ e = rw (named-so y from number e) refl
named-command (y ∷ ys) from number (suc at) d differ e =
    rw (other-named y ys from number at differ.0 e) (named-command ys from number at d differ.1 e)

-- no command is found under a name that none has
pub unnamed : (commands : List Command) (from number : ℕ) → has_command commands from number ≡ false → command_named commands from number ≡ None
unnamed [] from number none = refl
unnamed (y ∷ ys) from number none =
    let parts = or_parts (is_named from number y) (has_command ys from number) none in
    rw (parts.0) (unnamed ys from number parts.1)

-- the names tell which commands there are
pub has-named : (commands : List Command) (from number : ℕ) → has_name (map name_of commands) from number ≡ has_command commands from number
has-named [] from number = refl
has-named (y ∷ ys) from number = ap (λ (b : Bool). is_named from number y || b) (has-named ys from number)

-- one command more, of a new name
pub NamesDiffer-push : (xs : List Command) (x : Command) → NamesDiffer xs → list_any (same_name x) xs ≡ false → NamesDiffer (xs ++ x ∷ [])
unfolding NamesDiffer
NamesDiffer-push [] x differ new = (tt, tt)
NamesDiffer-push (y ∷ ys) x differ new =
    let parts = or_parts (same_name x y) (list_any (same_name x) ys) new in
    (all-push (λ z. same_name y z ≡ false) ys x differ.0 (same_name-sym x y parts.0), NamesDiffer-push ys x differ.1 parts.1)

-- the same where the name is told by mirror and number
pub names-push : (xs : List Command) (x : Command) → NamesDiffer xs → has_command xs x.from x.number ≡ false → NamesDiffer (xs ++ x ∷ [])
unfolding same_name
names-push xs x differ new = NamesDiffer-push xs x differ new

-- in a list of commands of different names none of the first ones has the name of a later one
pub names-at :
    (xs : List Command) (i : ℕ) (d : Command) → i < length xs → NamesDiffer xs
    → list_any (same_name (get_or xs i d)) (take i xs) ≡ false
unfolding NamesDiffer
names-at [] i d within differ = absurd (omega arith)
names-at (x ∷ xs) zero d within differ = refl
names-at (x ∷ xs) (suc i) d within differ =
    let here : same_name x (get_or xs i d) ≡ false = all-at (λ y. same_name x y ≡ false) xs i d differ.0 (omega arith) in
    rw (same_name-sym x (get_or xs i d) here) (names-at xs i d (omega arith) differ.1)

-- names that differ in two lists together differ in the first
pub NamesDiffer-front : (xs ys : List Command) → NamesDiffer (xs ++ ys) → NamesDiffer xs
unfolding NamesDiffer
NamesDiffer-front [] ys h = tt
NamesDiffer-front (x ∷ xs) ys h =
    (all-first (λ y. same_name x y ≡ false) xs ys h.0, NamesDiffer-front xs ys h.1)

-- what is told of a name by whether it was appended
pub not-so : (b : Bool) → true ≡ not b → b ≡ false
not-so true e = absurd (false≢true (sym e))
not-so false e = refl

pub is-so : (b : Bool) → false ≡ not b → b ≡ true
is-so true e = refl
is-so false e = absurd (false≢true e)
