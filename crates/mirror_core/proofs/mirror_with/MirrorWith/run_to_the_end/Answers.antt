use Rattle.std.proofs.Common.{◌≡◌, ◌-◌, ℕ, refl, sym, ap, ◌∙◌, arith}
use Rattle.sync_model.specs.Turns.{drain_within}
use Rattle.sync_model.proofs.Turning.{drained-state, no-turns-state, drain-state}
use Rattle.mirror_core.proofs.mirror_with.MirrorWith.run_to_the_end.Goals as goal

pub loop-init : goal.loop-init
loop-init g c =
    (let all : c.turns_to_drain-turns.result - 0 ≡ c.turns_to_drain-turns.result = omega arith in rw all refl)

pub returns-then-drained : goal.returns-then-drained
returns-then-drained g c =
    sym (drained-state (c.turns_to_drain-turns.result - c.loop.counter) c.loop.self (sym c.drained.ensures ∙ c.if-drained.true))
    ∙ c.loop.invariant
    ∙ ap (λ (n : ℕ). drain_within n c.args.self.now) c.turns_to_drain-turns.ensures

pub loop-preserved : goal.loop-preserved
loop-preserved g c =
    drain-state c.loop.self _ c.loop.counter c.turns_to_drain-turns.result (omega arith) (sym c.drained.ensures ∙ c.if-drained.false)
    c.turn-answers.ensures.state
    ∙ c.loop.invariant

pub returns : goal.returns
returns g c =
    sym (no-turns-state (c.turns_to_drain-turns.result - c.loop.counter) c.loop.self (omega arith)) ∙ c.loop.invariant
    ∙ ap (λ (n : ℕ). drain_within n c.args.self.now) c.turns_to_drain-turns.ensures
