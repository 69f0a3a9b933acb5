use Rattle.std.proofs.Common.{◌≡◌, ℕ, ◌==◌, List, filter, length, ◌∙◌, ap, subst, arith}
use Rattle.game_trait.specs.declared.command.Command.{Command}
use Rattle.game_trait.specs.Keys.{in_key_order}
use Rattle.match_data.specs.Data.{MatchData, IsMatch}
use Rattle.race_hall.specs.Raced.{course_of}
use Rattle.race_hall.specs.Crews.{IsPlanOf, IsRoomOf}
use Rattle.race_hall.proofs.FeederJobs.{few-commands, plan-short}
use Rattle.race_hall.proofs.crews.plans_and_rooms.Goals as goal
use Rattle.race_hall.proofs.Numbered.{numbered-none, numbered-more}

-- the mirror's own commands, of the match as contracts see it
own-plan :
    (k : ℕ) (inside m : MatchData) (commands plan : List Command)
    → inside ≡ m → commands ≡ inside.commands → plan ≡ in_key_order (filter (λ x. x.from == k) commands) → plan ≡ in_key_order (filter (λ x. x.from == k) m.commands)
own-plan k inside m commands plan view same is = is ∙ ap (λ (l : List Command). in_key_order (filter (λ x. x.from == k) l)) (same ∙ ap (λ (d : MatchData). d.commands) view)

pub loop-mirror-init : goal.loop-mirror-init
loop-mirror-init c = record {
  plans = numbered-none (IsPlanOf (course_of c.args.m.now)) _ c.new-plans.ensures.items;
  rooms = numbered-none (IsRoomOf (course_of c.args.m.now)) _ c.new-rooms.ensures.items;
}

pub overflow_cast-len : goal.overflow_cast-len
overflow_cast-len c =
    let m = c.args.m.now in
    let plan = own-plan c.loop-mirror.mirror _ m _ _ c.m.view_is c.as_slice.ensures.commands c.in_ok-plan.ensures in
    let a = ap (λ (l : List Command). length l) plan in
    let b = plan-short (course_of m) c.loop-mirror.mirror in
    let d = few-commands m (subst IsMatch c.m.view_is c.m.invariant) in
    let e = c.len.ensures in
    let f = c.in_ok-plan.plan.ok.0 in
    omega arith

pub overflow_add-len : goal.overflow_add-len
overflow_add-len c =
    let m = c.args.m.now in
    let plan = own-plan c.loop-mirror.mirror _ m _ _ c.m.view_is c.as_slice.ensures.commands c.in_ok-plan.ensures in
    let a = ap (λ (l : List Command). length l) plan in
    let b = plan-short (course_of m) c.loop-mirror.mirror in
    let d = few-commands m (subst IsMatch c.m.view_is c.m.invariant) in
    let e = c.len.ensures in
    let f = c.in_ok-plan.plan.ok.0 in
    let h = c.m.invariant.ticks.1 in
    omega arith

pub loop-mirror-preserved : goal.loop-mirror-preserved
loop-mirror-preserved c =
    let m = c.args.m.now in
    let plan = own-plan c.loop-mirror.mirror _ m _ _ c.m.view_is c.as_slice.ensures.commands c.in_ok-plan.ensures in
    record {
      plans = numbered-more (IsPlanOf (course_of m)) c.loop-mirror.mirror _ _ c.in_ok-plan.plan c.loop-mirror.invariant.plans c.in_ok-push-2.ensures.items plan;
      rooms =
          numbered-more (IsRoomOf (course_of m)) c.loop-mirror.mirror _ _ _ c.loop-mirror.invariant.rooms c.in_ok-push.ensures.items
          (let a = ap (λ (l : List Command). length l) plan in
          let e = c.len.ensures in
          let f = c.in_ok-plan.plan.ok.0 in
          let h = ap (λ (d : MatchData). d.length) c.m.view_is in
          omega arith);
    }
