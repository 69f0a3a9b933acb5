use Rattle.std.proofs.Common.{◌≡◌, length, sym, ap, subst, ◌∙◌, List}
use Rattle.std.specs.List.{AllByRecursion}
use Rattle.match_data.specs.Data.{MatchData, IsMatch, most_commands, schedules}
use Rattle.match_data.proofs.Plans.{equal-ticks, equal-copies}
use Rattle.sync_model.specs.Schedule.{Schedule, ticks_of_first, copies_of_first}
use Rattle.endless_mirror.specs.Session.{opening_roll}
use Rattle.rolling_mirror.specs.Rolling.{LetsTurnsGoOn}
use Rattle.endless_mirror.proofs.Steps.{opened, let-run}
use Rattle.endless_mirror.proofs.session.EndlessSession.open.Goals as goal

pub new-requires-clause-equal_ticks : goal.new-requires-clause-equal_ticks
new-requires-clause-equal_ticks g c =
    subst (λ (ps : List Schedule). AllByRecursion (λ plan. plan.length ≡ ticks_of_first ps) ps) (sym (c.as_slice.ensures.value ∙ c.in_ok-plans.ensures.plans))
    (equal-ticks c.args.m (subst IsMatch c.m.view_is c.m.invariant))

pub new-requires-clause-equal_copies : goal.new-requires-clause-equal_copies
new-requires-clause-equal_copies g c =
    subst (λ (ps : List Schedule). AllByRecursion (λ plan. length plan.delays ≡ copies_of_first ps) ps) (sym (c.as_slice.ensures.value ∙ c.in_ok-plans.ensures.plans))
    (equal-copies c.args.m (subst IsMatch c.m.view_is c.m.invariant))

pub returns : goal.returns
returns g c =
    opened c.args.opening.now c.args.m c.args.number c.in_ok-mirror.mirror c.as_slice.result.now _ _ _ _ _ c.in_ok-mirror.ensures.state
    (c.as_slice.ensures.value ∙ c.in_ok-plans.ensures.plans) (ap (λ (m : MatchData). m.names) c.m.view_is) (ap (λ (m : MatchData). m.version) c.m.view_is)
    (ap (λ (m : MatchData). m.mirrors) c.m.view_is)
    (c.room_of-room.ensures.room ∙ ap (λ (m : MatchData). most_commands m.version) c.m.view_is)
    (ap (λ (m : MatchData). (opening_roll c.args.opening.now m).keep) c.m.view_is)

pub new-requires-clause-goes_on : goal.new-requires-clause-goes_on
new-requires-clause-goes_on g c =
    subst (λ (ps : List Schedule). AllByRecursion LetsTurnsGoOn ps) (sym (c.as_slice.ensures.value ∙ c.in_ok-plans.ensures.plans))
    (let-run (schedules c.args.m) c.requires.windows)
