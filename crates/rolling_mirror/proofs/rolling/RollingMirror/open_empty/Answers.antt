use Rattle.std.proofs.Common.{◌≡◌, ◌∙◌, ap, length, arith}
use Rattle.sync_model.specs.Schedule.{Schedule, ticks_of_first, copies_of_first}
use Rattle.sync_model.proofs.Plans.{first-ticks, first-copies}
use Rattle.rolling_mirror.proofs.Joined.{opened-empty, rolling-empty}
use Rattle.rolling_mirror.proofs.rolling.RollingMirror.open_empty.Goals as goal

pub invariant_of-result : goal.invariant_of-result
invariant_of-result g c =
    let plans = c.args.plans.now in
    let ticks : c.length-window.result ≡ ticks_of_first plans =
    c.length-window.ensures.length ∙ ap (λ (p : Schedule). p.length) c.index-plans-0.is ∙ first-ticks plans _ c.requires.some_plan in
    let copies : c.copies-copies.result ≡ copies_of_first plans =
    c.copies-copies.ensures.copies ∙ ap (λ (p : Schedule). length p.delays) c.index-plans-0-2.is ∙ first-copies plans _ c.requires.some_plan in
    let many = c.copies-copies.ensures.copies in
    let some_copy = c.copies-copies.ensures.schedule.some_copy in
    rw (c.in_ok-new.ensures, c.of.ensures, c.twin.ensures, c.in_ok-from_slice.ensures.items, c.in_ok-with_room.ensures, ticks, copies)
    (rolling-empty c.args.snap.now plans c.args.room c.args.keep (omega arith)
    c.requires.equal_ticks c.requires.equal_copies c.requires.in_force c.requires.behind c.requires.reached c.requires.in_session)

pub returns-clause-state : goal.returns-clause-state
returns-clause-state g c =
    let plans = c.args.plans.now in
    let ticks : c.length-window.result ≡ ticks_of_first plans =
    c.length-window.ensures.length ∙ ap (λ (p : Schedule). p.length) c.index-plans-0.is ∙ first-ticks plans _ c.requires.some_plan in
    let copies : c.copies-copies.result ≡ copies_of_first plans =
    c.copies-copies.ensures.copies ∙ ap (λ (p : Schedule). length p.delays) c.index-plans-0-2.is ∙ first-copies plans _ c.requires.some_plan in
    rw (c.in_ok-new.ensures, c.of.ensures, c.twin.ensures, c.in_ok-from_slice.ensures.items, ticks, copies)
    (opened-empty c.args.snap.now plans c.args.room c.args.keep)

pub returns-clause-some_copy : goal.returns-clause-some_copy
returns-clause-some_copy g c =
    let plans = c.args.plans.now in
    let copies : c.copies-copies.result ≡ copies_of_first plans =
    c.copies-copies.ensures.copies ∙ ap (λ (p : Schedule). length p.delays) c.index-plans-0-2.is ∙ first-copies plans _ c.requires.some_plan in
    let many = c.copies-copies.ensures.copies in
    let some_copy = c.copies-copies.ensures.schedule.some_copy in
    omega arith
