use Rattle.std.proofs.Common.{◌≡◌, ◌∙◌, sym, ap, subst, ℕ, List, take, get_or, arith}
use Rattle.std.proofs.lemmas.List.{take_more}
use Rattle.std.specs.List.{AllByRecursion}
use Rattle.game_trait.proofs.Lists.{all-push}
use Rattle.sync_model.specs.Schedule.{Schedule, IsSchedule, longest_delay}
use Rattle.mirror_core.proofs.PlanLaws.{greatest-more, greatest-none}
use Rattle.mirror_core.proofs.plans.greatest.Goals as goal

pub loop-plan-preserved : goal.loop-plan-preserved
loop-plan-preserved c =
    let plans : List Schedule = c.args.plans.now in
    let i : ℕ = c.loop-plan.plan-index in
    let plan : Schedule = c.plan-item.result in
    let long : c.longest.result ≡ longest_delay (get_or plans i plan).delays =
    c.longest.ensures.longest ∙ ap (λ (p : Schedule). longest_delay p.delays) c.plan-item.is in
    let more = greatest-more plans i c.loop-plan.greatest plan c.loop-plan-test.true in
    let before = c.loop-plan.invariant.greatest in
    let most = c.max-greatest.ensures in
    record {
      greatest = omega arith;
      short =
          (let here = c.longest.ensures.short in
          let rest = c.loop-plan.invariant.short in omega arith);
      schedules =
          subst (AllByRecursion IsSchedule) (sym (take_more plans i plan c.loop-plan-test.true))
          (all-push IsSchedule (take i plans) (get_or plans i plan) c.loop-plan.invariant.schedules
          (subst IsSchedule c.plan-item.is c.longest.ensures.schedule));
    }

pub returns-clause-greatest : goal.returns-clause-greatest
returns-clause-greatest c =
    sym (greatest-none c.args.plans.now c.loop-plan.plan-index c.loop-plan.greatest
    c.loop-plan-test.false) ∙ c.loop-plan.invariant.greatest
