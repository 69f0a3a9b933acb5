use Rattle.std.proofs.Common.{◌≡◌, ℕ, ◌-◌, List, ◌++◌, ap, sym, ◌∙◌, arith}
use Rattle.std.proofs.lemmas.List.{append-nil}
use Rattle.sync_model.specs.Turns.{drain_within}
use Rattle.sync_model.proofs.Turning.{drained-state, no-turns-state, drain-state}
use Rattle.mirror_report.specs.Report.{drain_text}
use Rattle.mirror_report.proofs.Draining.{drained-text, no-turns-text, drain-text, drain-made, drain-put, drain-stopped, no-turn, no-text, drained-by, on_err_of}
use Rattle.mirror_report.proofs.drain.drain_mirror.Goals as goal

pub loop-init : goal.loop-init
loop-init g c =
    let s = c.args.mirror.now in
    let out = c.args.out.now.items in
    let n : c.args.turns - 0 ≡ c.args.turns = omega arith in
    record {
      state = ap (λ (k : ℕ). drain_within k s) n;
      text = ap (λ (k : ℕ). out ++ drain_text c.args.number k s) n;
      made = sym (no-turn s);
      put = sym (ap (λ (l : List ℕ). out ++ l) (no-text c.args.number s) ∙ append-nil out);
    }

pub returns-then-drained-clause-state : goal.returns-then-drained-clause-state
returns-then-drained-clause-state g c =
    sym (drained-state (c.args.turns - c.loop.counter) c.loop.mirror (sym c.drained.ensures ∙ c.if-drained.true)) ∙ c.loop.invariant.state

pub returns-then-drained-clause-text : goal.returns-then-drained-clause-text
returns-then-drained-clause-text g c =
    let out = c.loop.out.items in
    sym (ap (λ (l : List ℕ). out ++ l) (drained-text c.args.number (c.args.turns - c.loop.counter) c.loop.mirror (sym c.drained.ensures ∙ c.if-drained.true)) ∙ append-nil out)
    ∙ c.loop.invariant.text

pub loop-preserved : goal.loop-preserved
loop-preserved g c =
    let s = c.loop.mirror in
    let undrained = sym c.drained.ensures ∙ c.if-drained.false in
    let turned = c.in_ok-push_turn.ensures in
    let kept = c.loop.invariant in
    record {
      state = drain-state s _ c.loop.counter c.args.turns (omega arith) undrained turned.state ∙ kept.state;
      text = drain-text c.args.number s _ c.loop.counter c.args.turns c.loop.out.items _ (omega arith) undrained turned.state turned.ok ∙ kept.text;
      made = drain-made c.loop.counter _ s _ undrained kept.made turned.state;
      put = drain-put c.args.number c.loop.counter _ s _ _ _ undrained kept.made kept.put turned.ok;
    }

pub returns-in_err-push_turn-clause-stopped : goal.returns-in_err-push_turn-clause-stopped
returns-in_err-push_turn-clause-stopped g c =
    let kept = c.loop.invariant in
    let turned = c.in_err-push_turn.ensures in
    on_err_of c.from_residual.result
    (drain-stopped c.args.number c.loop.counter c.args.turns _ c.loop.mirror _ _ _ _ (omega arith) (sym c.drained.ensures ∙ c.if-drained.false) kept.made kept.put turned.state turned.err)

pub returns-clause-state : goal.returns-clause-state
returns-clause-state g c =
    sym (no-turns-state (c.args.turns - c.loop.counter) c.loop.mirror (omega arith)) ∙ c.loop.invariant.state

pub returns-clause-text : goal.returns-clause-text
returns-clause-text g c =
    let out = c.loop.out.items in
    sym (ap (λ (l : List ℕ). out ++ l) (no-turns-text c.args.number (c.args.turns - c.loop.counter) c.loop.mirror (omega arith)) ∙ append-nil out)
    ∙ c.loop.invariant.text

pub returns-then-drained-clause-drained : goal.returns-then-drained-clause-drained
returns-then-drained-clause-drained g c = λ bound. drained-by c.args.mirror.now _ c.args.turns c.always.ensures bound (returns-then-drained-clause-state g c)

pub returns-clause-drained : goal.returns-clause-drained
returns-clause-drained g c = λ bound. drained-by c.args.mirror.now _ c.args.turns c.always.ensures bound (returns-clause-state g c)
