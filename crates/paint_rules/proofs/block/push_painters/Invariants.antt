use Rattle.std.proofs.Common.{◌≡◌, ◌++◌, take}
use Rattle.paint_rules.specs.Block.{painter_lines}
use Rattle.paint_rules.proofs.block.push_painters.Given as goal

abbrev pub invariant-loop-number : goal.invariant-loop-number
invariant-loop-number l = l.out.items ≡ l.fn.out.items ++ painter_lines l.roster l.cells 0 (take l.number l.players)
