use Rattle.std.proofs.Common.{◌≡◌, ◌∙◌, ◌<◌, ap, zero, suc, ℕ, List, [], ◌∷◌, length, take, refl}
use Rattle.std.proofs.Common.{arith}
use Rattle.std.specs.Prelude.{slice_get}
use Rattle.game_trait.specs.declared.command.Item.{Item}
use Rattle.trailing_copy.proofs.Remade.{run-many, run-at, end-inside}
use Rattle.trailing_copy.proofs.lazy.LazyStack.run_item.Goals as goal
use Rattle.std.proofs.lemmas.List.{length-take-le}

get-taken : {X : Type 0} (xs : List X) (n i : ℕ) → i < n → slice_get (take n xs) i ≡ slice_get xs i
get-taken xs zero i low = absurd (omega arith)
get-taken [] (suc n) i low = refl
get-taken (x ∷ xs) (suc n) zero low = refl
get-taken (x ∷ xs) (suc n) (suc i) low = get-taken xs n i (omega arith)

pub item-requires : goal.item-requires
item-requires g c =
    (let there = rw (← c.self.view_is) at c.requires.copy in
    let many = run-many c.self.invariant.0 c.always.ensures.falls c.always.ensures.first in
    let own = ap (λ (l : List Item). length l) (run-at c.self.invariant.0 c.always.ensures.falls c.always.ensures.first c.args.copy (omega arith)) in
    let inside = end-inside c.self.invariant.0 c.always.ensures.falls c.always.ensures.first c.args.copy (omega arith) in
    let long = length-take-le _ c.self.inside.run.items inside in
    let place = rw (← c.self.view_is) at c.requires.place in
    omega arith)

pub returns : goal.returns
returns g c =
    let there = rw (← c.self.view_is) at c.requires.copy in
    let many = run-many c.self.invariant.0 c.always.ensures.falls c.always.ensures.first in
    let run =
    run-at c.self.invariant.0 c.always.ensures.falls c.always.ensures.first c.args.copy (omega arith) in
    let own = ap (λ (l : List Item). length l) run in
    let inside = end-inside c.self.invariant.0 c.always.ensures.falls c.always.ensures.first c.args.copy (omega arith) in
    let long = length-take-le _ c.self.inside.run.items inside in
    let place = rw (← c.self.view_is) at c.requires.place in
    rw (← c.self.view_is)
    (ap (λ (l : List Item). slice_get l c.args.place) run
    ∙ get-taken c.self.inside.run.items _ c.args.place (omega arith) ∙ c.item.ensures)
