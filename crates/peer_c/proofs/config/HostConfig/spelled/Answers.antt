use Rattle.std.proofs.Common.{◌≡◌, ◌*◌, ◌≤◌, ℕ, List, take, length, ap, ◌∙◌, subst, arith}
use Rattle.std.specs.List.{AllByRecursion}
use Rattle.sync_model.specs.Schedule.{Schedule, delays_of_each}
use Rattle.host_parts.specs.Rising.{ArePlans}
use Rattle.peer_c.proofs.Plans.{few-copies, if-some, if-none}
use Rattle.peer_c.proofs.config.HostConfig.spelled.Goals as goal

pub returns-then-self-gt8-2-clause-none : goal.returns-then-self-gt8-2-clause-none
returns-then-self-gt8-2-clause-none c = λ few plans are.
    let most = few-copies (take (c.args.self.now.plans * c.args.self.now.copies) c.args.self.now.delays) c.args.self.now.copies c.args.self.now.window plans are in
    let many = c.if-self-gt8-2.true in
    omega (arith, most, many)

-- what is cut off is what the delays spell
cut : (c : goal.After-plans_of) → c.split_at.result.0.now ≡ take (c.args.self.now.plans * c.args.self.now.copies) c.args.self.now.delays
cut c =
    c.split_at.ensures.front
    ∙ ap (λ (n : ℕ). take (n * c.from-2.result) c.args.self.now.delays) c.from.ensures
    ∙ ap (λ (n : ℕ). take (c.args.self.now.plans * n) c.args.self.now.delays) c.from-2.ensures

pub returns-clause-made : goal.returns-clause-made
returns-clause-made c =
    if-some (λ (plans : List Schedule). ArePlans c.split_at.result.0.now c.from-3.result c.args.self.now.window (delays_of_each plans)
    × (AllByRecursion (λ plan. length plan.delays ≡ c.from-3.result) plans × AllByRecursion (λ plan. plan.length ≡ c.args.self.now.window) plans))
    (λ (plans : List Schedule). (c.args.self.now.plans ≤ 8)
    × (ArePlans (take (c.args.self.now.plans * c.args.self.now.copies) c.args.self.now.delays) c.args.self.now.copies c.args.self.now.window (delays_of_each plans)
    × (AllByRecursion (λ plan. length plan.delays ≡ c.args.self.now.copies) plans × AllByRecursion (λ plan. plan.length ≡ c.args.self.now.window) plans)))
    (λ plans h. (
      c.if-self-gt8.false,
      (
        subst (λ (ds : List ℕ). ArePlans ds c.args.self.now.copies c.args.self.now.window (delays_of_each plans)) (cut c)
            (subst (λ (n : ℕ). ArePlans c.split_at.result.0.now n c.args.self.now.window (delays_of_each plans)) c.from-3.ensures h.0),
        (subst (λ (n : ℕ). AllByRecursion (λ plan. length plan.delays ≡ n) plans) c.from-3.ensures h.1.0, h.1.1),
      ),
    ))
    c.plans_of.result c.plans_of.ensures.made
