use Rattle.std.proofs.Common.{◌≡◌, ◌++◌, flat_map, take}
use Rattle.arena_rules.specs.Block.{shot_line}
use Rattle.arena_rules.proofs.block.push_shots.Given as goal

abbrev pub invariant-loop-shot : goal.invariant-loop-shot
invariant-loop-shot l = l.out.items ≡ l.fn.out.items ++ flat_map (shot_line l.roster) (take l.shot-index l.shots)
