use Rattle.std.proofs.Common.{◌≡◌, ◌-◌}
use Rattle.paint_rules.specs.Command.{painted_ahead}
use Rattle.paint_rules.proofs.painting.paint_ahead.Given as goal

abbrev pub invariant-loop : goal.invariant-loop
invariant-loop l = record {
  owners : painted_ahead l.ground l.number 3 l.fn.spot l.fn.board.owners ≡ painted_ahead l.ground l.number (3 - l.counter) l.at l.board.owners;
  pickups : l.board.pickups ≡ l.fn.board.pickups;
}
