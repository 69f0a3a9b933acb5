use Rattle.std.proofs.Common.{◌≡◌, ℕ, ◌-◌, ap, sym, ◌∙◌, arith}
use Rattle.sync_model.specs.Turns.{drain_within}
use Rattle.sync_model.proofs.Turning.{drained-state, no-turns-state, drain-state}
use Rattle.match_hall.proofs.Telling.{told-nothing, told-more}
use Rattle.match_hall.proofs.tell.tell_turns.Goals as goal

pub loop-init : goal.loop-init
loop-init g c =
    let n : c.args.turns - 0 ≡ c.args.turns = omega arith in
    record {
      state = ap (λ (k : ℕ). drain_within k c.args.mirror.now) n;
      told = told-nothing c.args.number c.args.mirror.now _ c.args.out.now.items;
    }

pub returns-then-drained-clause-state : goal.returns-then-drained-clause-state
returns-then-drained-clause-state g c =
    sym (drained-state (c.args.turns - c.loop.counter) c.loop.mirror (sym c.drained.ensures ∙ c.if-drained.true)) ∙ c.loop.invariant.state

pub loop-preserved : goal.loop-preserved
loop-preserved g c =
    let s = c.loop.mirror in
    let undrained = sym c.drained.ensures ∙ c.if-drained.false in
    let kept = c.loop.invariant in
    record {
      state = drain-state s _ c.loop.counter c.args.turns (omega arith) undrained c.in_ok-tell_turn.ensures.state ∙ kept.state;
      told = told-more c.args.number c.args.mirror.now s c.tell_turn.new.mirror _ _ _ _ _ _ kept.told c.in_ok-tell_turn.ensures.told;
    }

pub returns-clause-state : goal.returns-clause-state
returns-clause-state g c =
    sym (no-turns-state (c.args.turns - c.loop.counter) c.loop.mirror (omega arith)) ∙ c.loop.invariant.state
