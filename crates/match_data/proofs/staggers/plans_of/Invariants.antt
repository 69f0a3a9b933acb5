use Rattle.std.proofs.Common.{◌≡◌, ◌∷◌, map, take}
use Rattle.match_data.specs.Data.{schedule_of}
use Rattle.match_data.proofs.staggers.plans_of.Given as goal

abbrev pub invariant-loop-delays : goal.invariant-loop-delays
invariant-loop-delays l = l.plans.items ≡ schedule_of l.m l.m.delays ∷ map (schedule_of l.m) (take l.delays-index l.m.plans)
