use Rattle.std.proofs.Common.{◌≡◌, ℕ, get_or, ◌-◌, List, length, sym, ap, subst, ◌∙◌, arith}
use Rattle.std.proofs.lemmas.Grind.{common_steps}
use Rattle.std.specs.List.{AllByRecursion}
use Rattle.game_trait.specs.Count.{times}
use Rattle.match_data.specs.Data.{MatchData, IsMatch}
use Rattle.sync_model.specs.Schedule.{Schedule, ticks_of_first, copies_of_first}
use Rattle.match_data.specs.declared.script_line.ScriptLine.{ScriptLine}
use Rattle.match_hall.specs.Script.{arrives_at, restaggers_at, opening_from}
use Rattle.match_hall.proofs.Ready.{opened-more, opened-all}
use Rattle.match_hall.proofs.Whole.{opened-count, opened-few}
use Rattle.match_hall.proofs.open.open.Goals as goal
use Rattle.match_data.proofs.Plans.{equal-ticks, equal-copies}

pub loop-number-init : goal.loop-number-init
loop-number-init g c = rw c.new-mirrors.ensures.items (let n : c.args.m.now.mirrors - 0 ≡ c.args.m.now.mirrors = omega arith in ap (opening_from c.args.opening.now c.args.m.now 0) n)

pub new-requires-clause-equal_ticks : goal.new-requires-clause-equal_ticks
new-requires-clause-equal_ticks g c =
    subst (λ (ps : List Schedule). AllByRecursion (λ plan. plan.length ≡ ticks_of_first ps) ps) (sym (c.as_slice-in-loop-number.ensures.value ∙ c.in_ok-plans.ensures.plans))
    (equal-ticks c.args.m.now (subst IsMatch c.m.view_is c.m.invariant))

pub new-requires-clause-equal_copies : goal.new-requires-clause-equal_copies
new-requires-clause-equal_copies g c =
    subst (λ (ps : List Schedule). AllByRecursion (λ plan. length plan.delays ≡ copies_of_first ps) ps) (sym (c.as_slice-in-loop-number.ensures.value ∙ c.in_ok-plans.ensures.plans))
    (equal-copies c.args.m.now (subst IsMatch c.m.view_is c.m.invariant))

pub loop-number-preserved : goal.loop-number-preserved
loop-number-preserved g c =
    let number = c.loop-number.number in
    let all = ap (λ (m : MatchData). m.script) c.m.view_is in
    let counted = c.of-rooms.ensures number (omega (arith, c.loop-number-test.true, c.m.invariant.mirrors.1)) in
    let arrivals = ap (λ (i : ℕ). get_or c.of-rooms.result.arrivals i 0) c.from.ensures ∙ counted.0 in
    let restaggers = ap (λ (i : ℕ). get_or c.of-rooms.result.changes i 0) c.from-in-loop-number.ensures ∙ counted.1 in
    let room = arrivals ∙ ap (λ (ls : List ScriptLine). times (arrives_at number) ls) (c.as_slice.ensures ∙ all) in
    let changes = restaggers ∙ ap (λ (ls : List ScriptLine). times (restaggers_at number) ls) (c.as_slice.ensures ∙ all) in
    opened-more c.args.opening.now c.args.m.now number _ _ _ _ _ _ (rw (← c.m.view_is) c.loop-number-test.true)
    (c.as_slice-in-loop-number.ensures.value ∙ c.in_ok-plans.ensures.plans) room changes c.in_ok-new.ensures c.in_ok-push.ensures.items
    ∙ c.loop-number.invariant

pub returns-clause-mirrors : goal.returns-clause-mirrors
returns-clause-mirrors g c =
    sym (opened-all c.args.opening.now c.args.m.now c.loop-number.number _ (rw (← c.m.view_is) c.loop-number-test.false)) ∙ c.loop-number.invariant

pub returns-clause-count : goal.returns-clause-count
returns-clause-count g c =
    let made = sym (opened-all c.args.opening.now c.args.m.now c.loop-number.number _ (rw (← c.m.view_is) c.loop-number-test.false)) ∙ c.loop-number.invariant in
    rw made (opened-count c.args.opening.now c.args.m.now)

pub returns-clause-few : goal.returns-clause-few
returns-clause-few g c =
    let made = sym (opened-all c.args.opening.now c.args.m.now c.loop-number.number _ (rw (← c.m.view_is) c.loop-number-test.false)) ∙ c.loop-number.invariant in
    rw made (opened-few c.args.opening.now c.args.m.now (subst IsMatch c.m.view_is c.m.invariant))

pub new-requires-clause-room : goal.new-requires-clause-room
new-requires-clause-room g c =
    let counted = c.of-rooms.ensures c.loop-number.number (omega (arith, c.loop-number-test.true, c.m.invariant.mirrors.1)) in
    rw c.from.ensures (omega (arith, counted.2, c.m.invariant.script_count, ap length c.as_slice.ensures))

pub new-requires-clause-restaggers : goal.new-requires-clause-restaggers
new-requires-clause-restaggers g c =
    let counted = c.of-rooms.ensures c.loop-number.number (omega (arith, c.loop-number-test.true, c.m.invariant.mirrors.1)) in
    rw c.from-in-loop-number.ensures (omega (arith, counted.3, c.m.invariant.script_count, ap length c.as_slice.ensures))

pub returns-in_err-push-clause-mirrors : goal.returns-in_err-push-clause-mirrors
returns-in_err-push-clause-mirrors g c = grind (arith, common_steps)

pub returns-in_err-push-clause-count : goal.returns-in_err-push-clause-count
returns-in_err-push-clause-count g c = grind (arith, common_steps)

pub returns-in_err-push-clause-few : goal.returns-in_err-push-clause-few
returns-in_err-push-clause-few g c = grind (arith, common_steps)

pub returns-in_err-new-clause-mirrors : goal.returns-in_err-new-clause-mirrors
returns-in_err-new-clause-mirrors g c = grind (arith, common_steps)

pub returns-in_err-new-clause-count : goal.returns-in_err-new-clause-count
returns-in_err-new-clause-count g c = grind (arith, common_steps)

pub returns-in_err-new-clause-few : goal.returns-in_err-new-clause-few
returns-in_err-new-clause-few g c = grind (arith, common_steps)

pub returns-in_err-plans-clause-mirrors : goal.returns-in_err-plans-clause-mirrors
returns-in_err-plans-clause-mirrors g c = grind (arith, common_steps)

pub returns-in_err-plans-clause-count : goal.returns-in_err-plans-clause-count
returns-in_err-plans-clause-count g c = grind (arith, common_steps)

pub returns-in_err-plans-clause-few : goal.returns-in_err-plans-clause-few
returns-in_err-plans-clause-few g c = grind (arith, common_steps)
