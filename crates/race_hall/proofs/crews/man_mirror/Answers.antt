use Rattle.std.proofs.Common.{◌+◌, ℕ, List, length, ap, sym, ◌∙◌, subst, arith, ◌≡◌}
use Rattle.std.proofs.lemmas.List.{length-map}
use Rattle.std.specs.List.{AllByRecursion}
use Rattle.game_trait.specs.declared.command.Command.{Command}
use Rattle.sync_model.specs.State.{MirrorState}
use Rattle.sync_model.specs.Schedule.{Schedule, ticks_of_first, copies_of_first}
use Rattle.match_data.specs.Data.{MatchData, IsMatch}
use Rattle.match_data.proofs.Plans.{equal-ticks, equal-copies}
use Rattle.race_hall.specs.Raced.{course_of}
use Rattle.race_hall.specs.Crews.{shares_of}
use Rattle.race_hall.proofs.FeederJobs.{match-course, plan-short, few-commands, foreign-whole}
use Rattle.race_hall.proofs.Manned.{few-calls, few-grows, shares-long, opens, manned-crew}
use Rattle.race_hall.proofs.crews.man_mirror.Goals as goal

pub new-requires-clause-equal_ticks : goal.new-requires-clause-equal_ticks
new-requires-clause-equal_ticks g c =
    subst (λ (ps : List Schedule). AllByRecursion (λ plan. plan.length ≡ ticks_of_first ps) ps) (sym c.requires.plans) (equal-ticks c.args.m.now (subst IsMatch c.m.view_is c.m.invariant))

pub new-requires-clause-equal_copies : goal.new-requires-clause-equal_copies
new-requires-clause-equal_copies g c =
    subst (λ (ps : List Schedule). AllByRecursion (λ plan. length plan.delays ≡ copies_of_first ps) ps) (sym c.requires.plans) (equal-copies c.args.m.now (subst IsMatch c.m.view_is c.m.invariant))

pub shares-requires-clause-plan : goal.shares-requires-clause-plan
shares-requires-clause-plan g c =
    (let a = ap (λ (l : List Command). length l) c.requires.feeder.of.plan in
    let b = plan-short (course_of c.args.m.now) c.args.feeder.mirror in let d =
    few-commands c.args.m.now (subst IsMatch c.m.view_is c.m.invariant) in
    let e = c.args.feeder.plan.ok.0 in omega arith)

pub shares-requires-clause-foreign : goal.shares-requires-clause-foreign
shares-requires-clause-foreign g c =
    let is = subst IsMatch c.m.view_is c.m.invariant in
    (let a = foreign-whole (course_of c.args.m.now) c.args.feeder.mirror (match-course c.args.m.now is).from
    c.requires.there in let b = c.requires.feeder.of.foreign in let d = few-commands c.args.m.now is in omega arith)

pub start-requires-clause-calls : goal.start-requires-clause-calls
start-requires-clause-calls g c =
    let is = subst IsMatch c.m.view_is c.m.invariant in
    few-calls c.args.feeder.copies c.args.feeder.budget _ c.args.feeder.foreign _ (c.deref.ensures.value ∙ c.in_ok-shares.ensures)
    (let a = c.requires.feeder.copies in let b = is.delays.few_copies in omega arith) c.requires.budget
    (let a = ap (λ (l : List Command). length l) c.requires.feeder.of.plan in
    let b = plan-short (course_of c.args.m.now) c.args.feeder.mirror in let d = few-commands c.args.m.now is in
    let e = c.args.feeder.plan.ok.0 in omega arith)

pub start-requires-clause-arrivals : goal.start-requires-clause-arrivals
start-requires-clause-arrivals g c =
    let is = subst IsMatch c.m.view_is c.m.invariant in
    few-grows c.args.feeder.copies c.args.feeder.budget _ c.args.feeder.foreign _ _ (c.deref.ensures.value ∙ c.in_ok-shares.ensures)
    (let a = foreign-whole (course_of c.args.m.now) c.args.feeder.mirror (match-course c.args.m.now is).from c.requires.there in
    let b = c.requires.feeder.of.foreign in
    let d = ap (λ (l : List Command). length l) c.requires.feeder.of.plan in
    let e = c.args.feeder.plan.ok.0 in
    let f = ap (λ (s : MirrorState _). s.spare) c.in_ok-mirror.ensures in
    let h = c.len-room.ensures in
    let i = ap (λ (d : MatchData). length d.commands) c.m.view_is in
    omega arith)

pub returns-clause-manned : goal.returns-clause-manned
returns-clause-manned g c =
    let is = subst IsMatch c.m.view_is c.m.invariant in
    let pushed = c.in_ok-push_crew.ensures in
    let opened = opens c.args.m.now c.args.opening.now c.args.plans.now c.len-room.result c.in_ok-mirror.mirror
    c.requires.plans (c.len-room.ensures ∙ ap (λ (d : MatchData). length d.commands) c.m.view_is)
    c.in_ok-mirror.ensures in
    record {
      crew = pushed.0;
      parts = pushed.1;
      manned =
          manned-crew g.G.Game.rules (λ s. s.seat) c.in_ok-mirror.mirror c.args.m.now _ c.args.feeder pushed.0
          c.in_ok-lock.seats.items c.deref.result.now is c.requires.there c.requires.feeder c.requires.budget
          (ap (λ (s : MirrorState _). s.length) opened)
          (ap (λ (s : MirrorState _). length s.runs) opened ∙ length-map _ _ ∙ sym c.requires.feeder.copies)
          (c.deref.ensures.value ∙ c.in_ok-shares.ensures ∙ ap (λ (n : ℕ). shares_of c.args.feeder.copies c.args.feeder.budget n c.args.feeder.foreign) c.args.feeder.plan.ok.0)
          pushed.2 pushed.3 c.in_ok-lock.ensures.seats c.in_ok-lock.ensures.own c.in_ok-lock.ensures.fits;
    }

pub returns-clause-locked : goal.returns-clause-locked
returns-clause-locked g c =
    let opened = opens c.args.m.now c.args.opening.now c.args.plans.now c.len-room.result c.in_ok-mirror.mirror
    c.requires.plans (c.len-room.ensures ∙ ap (λ (d : MatchData). length d.commands) c.m.view_is)
    c.in_ok-mirror.ensures in
    record {
      held_is = c.in_ok-lock.ensures.opening ∙ opened;
      seats_is = c.in_ok-lock.ensures.counted
          ∙ shares-long c.args.feeder.copies c.args.feeder.budget _ c.args.feeder.foreign _
          (c.deref.ensures.value ∙ c.in_ok-shares.ensures) ∙ ap (λ (n : ℕ). n + 1) c.requires.feeder.copies;
    }
