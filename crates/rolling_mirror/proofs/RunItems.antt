-- The items of runs are told in ticks of the session.
use Rattle.std.proofs.Common.{◌≡◌, ℕ, zero, suc, ◌+◌, ◌^◌, ◌≤◌, ◌<◌, Bool, true, false, cond, nat_le, nat_lt, ◌&&◌, Some, List, [], ◌∷◌, length, slice_get, get_or, refl, ap, sym, ◌∙◌, arith}
use Rattle.std.proofs.lemmas.Bool.Decides.{nat_tests}
use Rattle.std.proofs.lemmas.Option.{get_or_from_slice_get}
use Rattle.std.specs.List.{AllByRecursion}
use Rattle.game_trait.specs.declared.command.Command.{Command}
use Rattle.game_trait.specs.declared.command.Item.{Item}
use Rattle.game_trait.specs.declared.command.Item.TheVariants.{Cmd, Beat}
use Rattle.game_trait.specs.Count.{times}
use Rattle.game_trait.specs.Run.{beats, commands_of}
use Rattle.sync_model.specs.Staggered.{IsComplete}
use Rattle.rolling_mirror.specs.Kept.{IsToldIn}

-- no command that is due in the session passes the test for those that aren't
none-past :
    (base n : ℕ) (xs : List Command) → AllByRecursion (λ x. base + x.time < 2 ^ 32) xs
    → times (λ x. nat_le (2 ^ 32) (x.time + base) && nat_lt x.time n) xs ≡ 0
unfolding times
none-past base n [] due = refl
none-past base n (x ∷ xs) due =
    let first = due.0 in
    let rest = none-past base n xs due.1 in
    grind (arith, nat_tests)

-- where none of a run's commands passes it, each item is told in the session
each-told :
    (base : ℕ) (run : List Item) (place : ℕ) (d : Item) → place < length run
    → times (λ x. nat_le (2 ^ 32) (x.time + base)) (commands_of run) ≡ 0
    → IsToldIn base (get_or run place d)
unfolding times commands_of IsToldIn
each-told base [] place d within none = absurd (omega arith)
each-told base (Cmd x ∷ run) zero d within none = grind (arith, nat_tests)
each-told base (Beat ∷ run) zero d within none = tt
each-told base (Cmd x ∷ run) (suc place) d within none = each-told base run place d (omega arith) (omega arith)
each-told base (Beat ∷ run) (suc place) d within none = each-told base run place d (omega arith) none

pub item-told :
    (base : ℕ) (accepted : List Command) (run : List Item) (place : ℕ) (item : Item)
    → AllByRecursion (λ x. base + x.time < 2 ^ 32) accepted → IsComplete accepted run → place < length run
    → slice_get run place ≡ Some item → IsToldIn base item
unfolding IsComplete
item-told base accepted run place item due complete within there =
    let told = each-told base run place Beat within (complete (λ x. nat_le (2 ^ 32) (x.time + base)) ∙ none-past base (beats run) accepted due) in
    rw (← get_or_from_slice_get run place item Beat there) told
