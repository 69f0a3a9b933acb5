use Rattle.std.proofs.Common.{◌≡◌, take}
use Rattle.std.specs.List.{AllByRecursion}
use Rattle.game_trait.specs.Run.{world_of}
use Rattle.arena_rules.specs.World.{arena_rules}
use Rattle.soak.proofs.agree.is_all_at.Given as goal

abbrev pub invariant-loop-copy : goal.invariant-loop-copy
invariant-loop-copy l = AllByRecursion (λ run. world_of arena_rules l.mirror.opening run ≡ l.world) (take l.copy l.mirror.runs)
