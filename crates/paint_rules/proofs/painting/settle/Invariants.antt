use Rattle.std.proofs.Common.{◌≡◌, drop}
use Rattle.paint_rules.specs.Scene.{settled}
use Rattle.paint_rules.proofs.painting.settle.Given as goal

abbrev pub invariant-loop-number : goal.invariant-loop-number
invariant-loop-number l = settled 0 l.fn.homes l.fn.cells ≡ settled l.number (drop l.number l.homes) l.cells
