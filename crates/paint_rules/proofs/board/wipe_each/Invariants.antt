use Rattle.std.proofs.Common.{◌≡◌, drop}
use Rattle.paint_rules.specs.Beat.{wiped}
use Rattle.paint_rules.proofs.board.wipe_each.Given as goal

abbrev pub invariant-loop-pickup : goal.invariant-loop-pickup
invariant-loop-pickup l = wiped l.fn.pickups l.fn.cells ≡ wiped (drop l.pickup-index l.pickups) l.cells
