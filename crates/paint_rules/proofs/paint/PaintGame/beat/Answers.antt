use Rattle.paint_rules.proofs.Places.{owners-wiped}
use Rattle.paint_rules.proofs.paint.PaintGame.beat.Goals as goal

pub invariant_of-self : goal.invariant_of-self
invariant_of-self c = rw c.wipe.ensures (record {
  grid = c.self.invariant.grid;
  players = c.self.invariant.players;
  stand = c.self.invariant.stand;
  apart = c.self.invariant.apart;
  owners = owners-wiped c.self.inside.ground c.self.inside.board.pickups c.self.inside.board.owners c.self.invariant.owners;
  count = c.self.invariant.count;
  pickups = c.self.invariant.pickups;
})
