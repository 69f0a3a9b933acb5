use Rattle.std.proofs.Common.{◌≡◌, ◌∙◌, ap, sym, subst, length, arith}
use Rattle.sync_model.specs.Schedule.{Schedule, ticks_of_first, copies_of_first, delays_of_each}
use Rattle.sync_model.specs.State.{opening_state}
use Rattle.rolling_mirror.specs.Rolling.{IsWindowOf}
use Rattle.sync_model.proofs.Plans.{first-ticks, first-copies}
use Rattle.rolling_mirror.proofs.Opened.{opened-is, opened-copies, rolling-opened}
use Rattle.rolling_mirror.proofs.Windows.{opening-window}
use Rattle.rolling_mirror.proofs.rolling.RollingMirror.new.Goals as goal

pub invariant_of-result : goal.invariant_of-result
invariant_of-result g c =
    let plans = c.args.plans.now in
    let ticks : c.length-window.result ≡ ticks_of_first plans =
    c.length-window.ensures.length ∙ ap (λ (p : Schedule). p.length) c.index-plans-0.is ∙ first-ticks plans _ c.requires.some_plan in
    let copies : c.copies-copies.result ≡ copies_of_first plans =
    c.copies-copies.ensures.copies ∙ ap (λ (p : Schedule). length p.delays) c.index-plans-0-2.is ∙ first-copies plans _ c.requires.some_plan in
    let window = c.length-window.ensures.length in
    let some_tick = c.length-window.ensures.schedule.some_tick in
    let many = c.copies-copies.ensures.copies in
    let some_copy = c.copies-copies.ensures.schedule.some_copy in
    rw (c.in_ok-new.ensures, c.of.ensures, c.twin.ensures, c.in_ok-from_slice.ensures.items, c.in_ok-with_room.ensures, ticks, copies)
    (rolling-opened c.args.opening.now plans c.args.room c.args.keep c.requires.some_plan (omega arith) (omega arith)
    c.requires.equal_ticks c.requires.equal_copies)

pub returns-clause-state : goal.returns-clause-state
returns-clause-state g c =
    let plans = c.args.plans.now in
    let ticks : c.length-window.result ≡ ticks_of_first plans =
    c.length-window.ensures.length ∙ ap (λ (p : Schedule). p.length) c.index-plans-0.is ∙ first-ticks plans _ c.requires.some_plan in
    let copies : c.copies-copies.result ≡ copies_of_first plans =
    c.copies-copies.ensures.copies ∙ ap (λ (p : Schedule). length p.delays) c.index-plans-0-2.is ∙ first-copies plans _ c.requires.some_plan in
    rw (c.in_ok-new.ensures, c.of.ensures, c.twin.ensures, c.in_ok-from_slice.ensures.items, ticks, copies)
    (opened-is c.args.opening.now plans c.args.room c.args.keep)

pub returns-clause-window : goal.returns-clause-window
returns-clause-window g c = λ n spare plan_spare.
    let plans = c.args.plans.now in
    let whole = opening_state c.args.opening.now n (delays_of_each plans) spare plan_spare in
    let copies : c.copies-copies.result ≡ copies_of_first plans =
    c.copies-copies.ensures.copies ∙ ap (λ (p : Schedule). length p.delays) c.index-plans-0-2.is ∙ first-copies plans _ c.requires.some_plan in
    let many = c.copies-copies.ensures.copies in
    let some_copy = c.copies-copies.ensures.schedule.some_copy in
    let runs = opened-copies c.args.opening.now n plans spare plan_spare in
    subst (IsWindowOf g.G.Game.rules whole) (sym (returns-clause-state g c))
    (opening-window g.G.Game.rules c.args.opening.now (ticks_of_first plans) n (delays_of_each plans) spare plan_spare (omega arith))
