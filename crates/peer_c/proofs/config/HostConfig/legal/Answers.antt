use Rattle.std.proofs.Common.{◌≡◌, ◌*◌, ℕ, Bool, true, List, take, sym, ◌∙◌, subst, true≢false}
use Rattle.std.specs.List.{AllByRecursion}
use Rattle.sync_model.specs.Schedule.{Schedule, delays_of_each}
use Rattle.peer_c.specs.Legal.{ArePlansOf, is_long}
use Rattle.peer_c.proofs.Plans.{one-spelling, long-each, each-long, go-on}
use Rattle.peer_c.proofs.config.HostConfig.legal.Goals as goal

pub returns-then-not-all_long-clause-none : goal.returns-then-not-all_long-clause-none
returns-then-not-all_long-clause-none c = λ is.
    let keep = c.args.self.now.keep in
    let window = c.args.self.now.window in
    let plans : List Schedule = c.in_ok-plans.plans in
    let same : is.plans.0 ≡ delays_of_each plans =
    one-spelling (take (c.args.self.now.plans * c.args.self.now.copies) c.args.self.now.delays) c.args.self.now.copies window is.plans.0 (delays_of_each plans) is.plans.1.spelled c.in_ok-plans.ensures.made.1.0 in
    let all = each-long keep window plans (subst (λ (ps : List (List ℕ)). AllByRecursion (λ delays. is_long keep window delays ≡ true) ps) same is.plans.1.long) in
    true≢false (sym (c.all_long.ensures.no (subst (λ (ps : List Schedule). AllByRecursion (λ plan. is_long keep window plan.delays ≡ true) ps) (sym c.as_slice.ensures) all)) ∙ c.if-not-all_long.true)

-- the window is long enough for each plan
all-long : (c : goal.Else-not-all_long) → AllByRecursion (λ (plan : Schedule). is_long c.args.self.now.keep c.args.self.now.window plan.delays ≡ true) c.in_ok-plans.plans
all-long c =
    subst (λ (ps : List Schedule). AllByRecursion (λ plan. is_long c.args.self.now.keep c.args.self.now.window plan.delays ≡ true) ps) c.as_slice.ensures
    (c.all_long.ensures.yes c.if-not-all_long.false)

pub returns-clause-legal : goal.returns-clause-legal
returns-clause-legal c =
    let are : ArePlansOf c.args.self.now (delays_of_each c.in_ok-plans.plans) = record {
      few = c.in_ok-plans.ensures.made.0;
      spelled = c.in_ok-plans.ensures.made.1.0;
      long = long-each c.args.self.now.keep c.args.self.now.window c.in_ok-plans.plans (all-long c);
    } in
    (record { numbers = c.are_numbers.ensures.yes c.if-not-are_numbers.false; plans = (delays_of_each c.in_ok-plans.plans, are) }, are)

pub returns-clause-goes_on : goal.returns-clause-goes_on
returns-clause-goes_on c = go-on c.args.self.now.keep c.args.self.now.window c.in_ok-plans.plans (all-long c) c.in_ok-plans.ensures.made.1.1.1
