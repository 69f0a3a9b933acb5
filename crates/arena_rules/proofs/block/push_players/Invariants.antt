use Rattle.std.proofs.Common.{◌≡◌, ◌++◌, take}
use Rattle.arena_rules.specs.Block.{state_lines}
use Rattle.arena_rules.proofs.block.push_players.Given as goal

abbrev pub invariant-loop-number : goal.invariant-loop-number
invariant-loop-number l = l.out.items ≡ l.fn.out.items ++ state_lines l.roster 0 (take l.number l.players)
