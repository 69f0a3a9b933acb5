use Rattle.std.proofs.Common.{◌≡◌, ◌∙◌, ap, sym, refl, length, arith}
use Rattle.sync_model.specs.Schedule.{Schedule}
use Rattle.sync_model.specs.State.{MirrorState}
use Rattle.mirror_core.specs.Kept.{ticks_of_first, copies_of_first}
use Rattle.sync_model.proofs.Plans.{first-ticks, first-copies}
use Rattle.mirror_core.proofs.Opened.{kept_opened, opened_state}
use Rattle.mirror_core.proofs.inner.MirrorCore.new.Goals as goal

pub invariant_of-result : goal.invariant_of-result
invariant_of-result g c =
    let empty = c.in_ok-lists.ensures.empty in
    let room = c.in_ok-lists.ensures.room in
    let ticks : c.length-ticks.result ≡ ticks_of_first c.args.plans.now =
    c.length-ticks.ensures.length ∙ ap (λ (p : Schedule). p.length) c.index-plans-0.is
    ∙ first-ticks c.args.plans.now _ c.requires.some_plan
    in
    let copies : c.copies-copies.result ≡ copies_of_first c.args.plans.now =
    c.copies-copies.ensures.copies ∙ ap (λ (p : Schedule). length p.delays) c.index-plans-0-2.is
    ∙ first-copies c.args.plans.now _ c.requires.some_plan
    in
    rw (
      c.in_ok-new.ensures,
      c.in_ok-new-2.ensures,
      c.in_ok-lists.ensures.plans,
      empty.0,
      empty.1,
      empty.2,
      room.0,
      room.1,
      room.2,
      ticks,
      copies,
      c.greatest.ensures.greatest,
    )
    (kept_opened c.args.opening.now c.args.plans.now c.args.room c.args.restaggers _ _
    c.requires.some_plan c.requires.few_plans c.greatest.ensures.schedules
    c.requires.equal_ticks c.requires.equal_copies c.requires.room c.requires.restaggers (omega arith)
    (λ from number. refl))

pub returns : goal.returns
returns g c =
    let empty = c.in_ok-lists.ensures.empty in
    let ticks : c.length-ticks.result ≡ ticks_of_first c.args.plans.now =
    c.length-ticks.ensures.length ∙ ap (λ (p : Schedule). p.length) c.index-plans-0.is
    ∙ first-ticks c.args.plans.now _ c.requires.some_plan
    in
    let copies : c.copies-copies.result ≡ copies_of_first c.args.plans.now =
    c.copies-copies.ensures.copies ∙ ap (λ (p : Schedule). length p.delays) c.index-plans-0-2.is
    ∙ first-copies c.args.plans.now _ c.requires.some_plan
    in
    rw (c.in_ok-new.ensures, c.in_ok-lists.ensures.plans, empty.1, empty.2, ticks, copies)
    (ap (λ (s : MirrorState _). record { state = s; stale = 0 })
    (sym (opened_state c.args.opening.now c.args.plans.now c.args.room c.args.restaggers)))
