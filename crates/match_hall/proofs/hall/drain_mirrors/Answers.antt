use Rattle.std.proofs.Common.{◌≡◌, ◌<◌, ◌≤◌, ℕ, ◌++◌, List, length, map, sym, ap, ◌∙◌, subst, arith}
use Rattle.std.specs.List.{AllByRecursion}
use Rattle.std.proofs.lemmas.List.{get_or_default, take_all}
use Rattle.sync_model.specs.State.{MirrorState}
use Rattle.sync_model.specs.Turns.{drain, drain_within, drain_bound, IsDrained}
use Rattle.mirror_report.specs.Report.{drain_text}
use Rattle.match_hall.proofs.Along.{on_err_of}
use Rattle.match_hall.proofs.Steps.{drained-none, drained-more, drained-all, drained-count, ended-more, draining-stopped}
use Rattle.match_hall.proofs.hall.drain_mirrors.Goals as goal

pub loop-at-init : goal.loop-at-init
loop-at-init g c = record { end = (let ok = c.args.mirrors.now.ok.0 in let len = c.len-at-end.ensures in omega arith); drained = drained-none c.args.mirrors.now.items c.args.out.now.items; ended = tt }

pub loop-at-preserved : goal.loop-at-preserved
loop-at-preserved g c =
    let kept = c.loop-at.invariant in
    let at = c.loop-at.at in
    let s = c.index_mut.result.now in
    let below : at < length c.args.mirrors.now.items = omega (arith, c.loop-at-test.true, kept.end) in
    let there : at < length c.loop-at.mirrors.items = (let many = drained-count at _ _ _ _ kept.drained in omega arith) in
    let turns : c.turns_to_drain-turns.result ≡ drain_bound s =
    c.turns_to_drain-turns.ensures ∙ ap (λ (u : MirrorState _). drain_bound u) (c.index.ensures ∙ get_or_default c.loop-at.mirrors.items at _ _ there ∙ sym c.index_mut.ensures.value) in
    let drained = c.in_ok-drain_mirror.ensures in
    record {
      end = kept.end;
      drained =
          drained-more at _ _ _ _ _ s _ below kept.drained c.index_mut.ensures.value (drained.state ∙ ap (λ (n : ℕ). drain_within n s) turns)
          (drained.text ∙ ap (λ (n : ℕ). c.loop-at.out.items ++ drain_text at n s) turns);
      ended =
          ended-more at _ _ _ _ s _ below kept.drained c.index_mut.ensures.value (drained.state ∙ ap (λ (n : ℕ). drain_within n s) turns)
          (drained.drained turns) kept.ended;
    }

pub returns-in_err-drain_mirror-clause-stopped : goal.returns-in_err-drain_mirror-clause-stopped
returns-in_err-drain_mirror-clause-stopped g c =
    let kept = c.loop-at.invariant in
    let at = c.loop-at.at in
    let s = c.index_mut.result.now in
    let below : at < length c.args.mirrors.now.items = omega (arith, c.loop-at-test.true, kept.end) in
    let there : at < length c.loop-at.mirrors.items = (let many = drained-count at _ _ _ _ kept.drained in omega arith) in
    let turns : c.turns_to_drain-turns.result ≡ drain_bound s =
    c.turns_to_drain-turns.ensures ∙ ap (λ (u : MirrorState _). drain_bound u) (c.index.ensures ∙ get_or_default c.loop-at.mirrors.items at _ _ there ∙ sym c.index_mut.ensures.value) in
    on_err_of c.from_residual.result
    (draining-stopped at _ _ _ _ _ _ s _ below kept.drained c.index_mut.ensures.value turns c.in_err-drain_mirror.ensures.stopped)

pub returns-clause-state : goal.returns-clause-state
returns-clause-state g c =
    let kept = c.loop-at.invariant in
    (drained-all c.loop-at.at _ _ _ _ (omega (arith, c.loop-at-test.false, kept.end)) kept.drained).0

pub returns-clause-text : goal.returns-clause-text
returns-clause-text g c =
    let kept = c.loop-at.invariant in
    (drained-all c.loop-at.at _ _ _ _ (omega (arith, c.loop-at-test.false, kept.end)) kept.drained).1

pub returns-clause-drained : goal.returns-clause-drained
returns-clause-drained g c =
    let kept = c.loop-at.invariant in
    let past : length c.args.mirrors.now.items ≤ c.loop-at.at = omega (arith, c.loop-at-test.false, kept.end) in
    subst (λ (ss : List (MirrorState _)). AllByRecursion (λ s. IsDrained s) ss) (sym (returns-clause-state g c))
    (subst (λ (ss : List (MirrorState _)). AllByRecursion (λ s. IsDrained s) (map (λ s. drain s) ss)) (take_all c.loop-at.at c.args.mirrors.now.items past) kept.ended)
