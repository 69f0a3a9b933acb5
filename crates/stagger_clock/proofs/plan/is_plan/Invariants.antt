use Rattle.std.proofs.Common.{◌≡◌, drop}
use Rattle.stagger_clock.specs.Rising.{rises_from}
use Rattle.stagger_clock.proofs.plan.is_plan.Given as goal

abbrev pub invariant-loop-delay : goal.invariant-loop-delay
invariant-loop-delay l = rises_from l.last (drop l.delay-index l.more) ≡ rises_from l.initial.last l.more
