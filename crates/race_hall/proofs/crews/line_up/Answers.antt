use Rattle.std.proofs.Common.{◌≡◌, ◌+◌, ◌-◌, ◌<◌, ℕ, List, Vec, length, refl, ◌∙◌, ap, sym, subst, arith}
use Rattle.std.specs.declared.alloc.Global.{Global}
use Rattle.std.specs.List.{AllZip}
use Rattle.game_trait.specs.declared.command.Command.{Command}
use Rattle.sync_model.specs.Schedule.{Schedule}
use Rattle.match_data.specs.Data.{MatchData}
use Rattle.race_hall.specs.Race.{count_from}
use Rattle.race_hall.specs.Raced.{course_of}
use Rattle.race_hall.specs.Crews.{IsPlanOf}
use Rattle.race_hall.specs.FeederJobs.{HasPlan}
use Rattle.race_hall.proofs.FeederJobs.{plan-short, lines-begin, lines-more, front-left}
use Rattle.race_hall.proofs.crews.line_up.Goals as goal
use Rattle.race_hall.proofs.Numbered.{numbered-length, numbered-none, numbered-more, numbered-off}

pub loop-mirror-init : goal.loop-mirror-init
loop-mirror-init c = record {
  plans = (let e : c.args.m.now.mirrors ≡ c.args.m.now.mirrors - 0 = omega arith in
      subst (λ (n : ℕ). AllZip (IsPlanOf (course_of c.args.m.now)) (count_from 0 n) c.into_iter-plans.result.rest.items) e
      (subst (λ (l : List (Vec Command Global)). AllZip (IsPlanOf (course_of c.args.m.now)) (count_from 0 c.args.m.now.mirrors) l)
      (sym c.into_iter-plans.ensures.rest) c.requires.plans));
  each = numbered-none (HasPlan (course_of c.args.m.now) c.args.budget) _ c.new-jobs.ensures.items;
  lines = lines-begin _ _ _ _ _ c.into_iter-sends.ensures.rest c.into_iter-rows.ensures.rest c.new-jobs.ensures.items;
}

pub take_next-plan-requires : goal.take_next-plan-requires
take_next-plan-requires c =
    let a = numbered-length (IsPlanOf (course_of c.args.m.now)) c.loop-mirror.mirror (c.args.m.now.mirrors - c.loop-mirror.mirror) c.loop-mirror.plans.rest.items c.loop-mirror.invariant.plans in
    let b = ap (λ (d : MatchData). d.mirrors) c.m.view_is in
    let t = c.loop-mirror-test.true in
    omega arith

pub overflow_sub-len : goal.overflow_sub-len
overflow_sub-len c =
    let m = c.args.m.now in
    let here : c.loop-mirror.mirror < m.mirrors = (let b = ap (λ (d : MatchData). d.mirrors) c.m.view_is in let t = c.loop-mirror-test.true in omega arith) in
    let off = numbered-off (IsPlanOf (course_of m)) c.loop-mirror.mirror (m.mirrors - c.loop-mirror.mirror) _ _
    c.take_next-plan.result c.loop-mirror.invariant.plans (omega arith) c.take_next-plan.ensures in
    let a = ap (λ (l : List Command). length l) off.0 in
    let b = plan-short (course_of m) c.loop-mirror.mirror in
    let d = ap (λ (d : MatchData). length d.commands) c.m.view_is in
    let e = c.len.ensures in
    let f = c.len-in-loop-mirror.ensures in
    let v = c.take_next-plan.result.ok.0 in
    omega arith

pub take_next-requires : goal.take_next-requires
take_next-requires c =
    let a = front-left (λ job. job.sends) c.loop-mirror.jobs.items c.loop-mirror.sends.rest.items c.args.sends.items c.loop-mirror.invariant.lines.sends_are in
    let b = numbered-length (HasPlan (course_of c.args.m.now) c.args.budget) 0 c.loop-mirror.mirror c.loop-mirror.jobs.items c.loop-mirror.invariant.each in
    let d = ap (λ (d : MatchData). d.mirrors) c.m.view_is in
    let t = c.loop-mirror-test.true in
    let e = c.requires.sends in
    omega arith

pub loop-mirror-preserved : goal.loop-mirror-preserved
loop-mirror-preserved c =
    let m = c.args.m.now in
    let here : c.loop-mirror.mirror < m.mirrors = (let b = ap (λ (d : MatchData). d.mirrors) c.m.view_is in let t = c.loop-mirror-test.true in omega arith) in
    let off = numbered-off (IsPlanOf (course_of m)) c.loop-mirror.mirror (m.mirrors - c.loop-mirror.mirror) _ _
    c.take_next-plan.result c.loop-mirror.invariant.plans (omega arith) c.take_next-plan.ensures in
    record {
      plans = (let e : m.mirrors - c.loop-mirror.mirror - 1 ≡ m.mirrors - (c.loop-mirror.mirror + 1) = omega arith in
          subst (λ (n : ℕ). AllZip (IsPlanOf (course_of m)) (count_from (c.loop-mirror.mirror + 1) n)
          c.take_next-plan.new.list.rest.items) e off.1);
      each =
          numbered-more (HasPlan (course_of m) c.args.budget) c.loop-mirror.mirror _ _ _ c.loop-mirror.invariant.each c.in_ok-push.ensures.items
          (record {
            mirror = refl;
            copies = c.copies.ensures.copies ∙ ap (λ (s : Schedule). length s.delays) c.requires.stagger;
            budget_is = refl;
            plan = off.0;
            length_is = ap (λ (s : Schedule). s.length) c.requires.stagger;
            pace = ap (λ (d : MatchData). d.pace) c.m.view_is;
            foreign =
                (let a = ap (λ (l : List Command). length l) off.0 in
                let b = plan-short (course_of m) c.loop-mirror.mirror in
                let d = ap (λ (d : MatchData). length d.commands) c.m.view_is in
                let e = c.len.ensures in
                let f = c.len-in-loop-mirror.ensures in
                let v = c.take_next-plan.result.ok.0 in
                omega arith);
          });
      lines =
          lines-more _ _ _ _ _ _ _ _ _ c.loop-mirror.invariant.lines c.in_ok-push.ensures.items
          c.take_next.ensures c.take_next-in-loop-mirror.ensures;
    }
