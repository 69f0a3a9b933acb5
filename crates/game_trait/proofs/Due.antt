-- What is due among the first commands of a list, and what is left of it.
use Rattle.std.proofs.Common.{◌≡◌, ◌≢◌, refl, ◌∙◌, ap, ℕ, ◌+◌, ◌<◌, Bool, true, false, cond, List, [], ◌∷◌, ◌++◌, length, take, drop, get_or, map, add-one, append-nil, drop-cons, arith}
use Rattle.std.proofs.lemmas.List.{map-append}
use Rattle.std.proofs.lemmas.List.Elements.{filter_more}
use Rattle.std.proofs.lemmas.Bool.{ne_eqb}
use Rattle.std.specs.Prelude.{◌==◌}
use Rattle.std.specs.List.{AllByRecursion, filter}
use Rattle.game_trait.specs.declared.command.Command.{Command}
use Rattle.game_trait.specs.declared.command.Item.TheVariants.{Cmd}
use Rattle.game_trait.specs.Count.{times}
use Rattle.game_trait.proofs.Lists.{all-weaker}

-- no command of another time is due
pub none-due :
    (t : ℕ) (xs : List Command) → AllByRecursion (λ x. x.time ≢ t) xs → filter (λ x. x.time == t) xs ≡ []
none-due t [] h = refl
none-due t (x ∷ xs) h = rw (ne_eqb x.time t h.0) (none-due t xs h.1)

-- nor is one of a later time
pub none-due_later :
    (t : ℕ) (xs : List Command) → AllByRecursion (λ x. t < x.time) xs → filter (λ x. x.time == t) xs ≡ []
none-due_later t xs h =
    none-due t xs (all-weaker (λ x. t < x.time) (λ x. x.time ≢ t) xs (λ x low. omega arith) h)

-- one command more is due
pub due_more :
    (p : Command → Bool) (xs : List Command) (i : ℕ) (d : Command) → i < length xs → p (get_or xs i d) ≡ true
    → map Cmd (filter p (take (i + 1) xs)) ≡ map Cmd (filter p (take i xs)) ++ Cmd (get_or xs i d) ∷ []
due_more p xs i d in_list due =
    ap (λ (ys : List Command). map Cmd ys) (filter_more p xs i d in_list ∙ ap (λ (v : Bool). filter p (take i xs) ++ cond v (get_or xs i d ∷ []) []) due)
    ∙ map-append Cmd (filter p (take i xs)) (get_or xs i d ∷ [])

-- or none
pub due_same :
    (p : Command → Bool) (xs : List Command) (i : ℕ) (d : Command) → i < length xs → p (get_or xs i d) ≡ false
    → map Cmd (filter p (take (i + 1) xs)) ≡ map Cmd (filter p (take i xs))
due_same p xs i d in_list not_due =
    ap (λ (ys : List Command). map Cmd ys)
    (filter_more p xs i d in_list
    ∙ ap (λ (v : Bool). filter p (take i xs) ++ cond v (get_or xs i d ∷ []) []) not_due
    ∙ append-nil (filter p (take i xs)))

-- how many of the rest pass a test
pub left_more :
    (p : Command → Bool) (xs : List Command) (i : ℕ) (d : Command) → i < length xs
    → times p (drop i xs) ≡ cond (p (get_or xs i d)) 1 0 + times p (drop (i + 1) xs)
unfolding times
left_more p xs i d in_list = rw (add-one, drop-cons xs i d) refl
