use Rattle.std.proofs.Common.{◌≡◌, ℕ, ◌-◌, ◌∙◌, ap, List, get_or}
use Rattle.game_trait.specs.Shifted.{ShiftedWorld}
use Rattle.trailing_copy.proofs.Forgetting.{forgotten, forgotten-state, last-is}
use Rattle.trailing_copy.proofs.forget.«LazyStack+Shifted+G».forget.Goals as goal

pub invariant_of-self : goal.invariant_of-self
invariant_of-self g c =
    let h = c.self.invariant.0 in
    let last =
    last-is g.G.Game.rules h c.always.ensures.falls c.always.ensures.first (c.copies-last.result - 1) c.beats-ticks.result c.index.result.now c.index.result.now
    (ap (λ (n : ℕ). n - 1) c.copies-last.ensures) c.beats-ticks.ensures (c.index.ensures ∙ ap (λ (l : List (ShiftedWorld _)). get_or l (c.copies-last.result - 1) c.index.result.now) c.pass_each.ensures.worlds) in
    rw (c.forget-2.ensures, c.forget.ensures, c.set_from.ensures, c.pass_each.ensures.worlds)
    (forgotten g.G.Game.rules h c.always.ensures.falls c.always.ensures.first last _ c.self.invariant.1)

pub returns : goal.returns
returns g c =
    let h = c.self.invariant.0 in
    let last =
    last-is g.G.Game.rules h c.always.ensures.falls c.always.ensures.first (c.copies-last.result - 1) c.beats-ticks.result c.index.result.now c.index.result.now
    (ap (λ (n : ℕ). n - 1) c.copies-last.ensures) c.beats-ticks.ensures (c.index.ensures ∙ ap (λ (l : List (ShiftedWorld _)). get_or l (c.copies-last.result - 1) c.index.result.now) c.pass_each.ensures.worlds) in
    rw (← c.self.view_is, c.forget-2.ensures, c.forget.ensures, c.set_from.ensures)
    (forgotten-state g.G.Game.rules h c.always.ensures.falls c.always.ensures.first last)
