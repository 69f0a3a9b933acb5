use Rattle.std.proofs.Common.{arith}
use Rattle.paint_rules.proofs.Places.{owners-ahead}
use Rattle.paint_rules.proofs.paint.Paint.shoot.Goals as goal

pub invariant_of-self : goal.invariant_of-self
invariant_of-self c = rw c.paint_ahead.ensures (record {
  grid = c.self.invariant.grid;
  players = c.self.invariant.players;
  stand = c.self.invariant.stand;
  apart = c.self.invariant.apart;
  owners =
      (let small = c.in-Some.ensures.known c.in-Some.ensures.there in
      owners-ahead c.self.inside.ground c.args.number 3 c.in-Some.spot c.self.inside.board.owners c.self.invariant.grid (omega (arith, small)) c.self.invariant.owners);
  count = c.self.invariant.count;
  pickups = c.self.invariant.pickups;
})
