use Rattle.std.proofs.Common.{take}
use Rattle.std.specs.List.{AllByRecursion}
use Rattle.arena_rules.specs.World.{arena_rules}
use Rattle.soak.specs.Agree.{IsAllAt}
use Rattle.soak.proofs.agree.are_all_at.Given as goal

abbrev pub invariant-loop-number : goal.invariant-loop-number
invariant-loop-number l = AllByRecursion (IsAllAt arena_rules l.world) (take l.number l.hall)
