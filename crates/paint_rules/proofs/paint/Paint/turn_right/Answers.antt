use Rattle.std.proofs.Common.{◌∙◌, sym, refl, length-set, arith}
use Rattle.paint_rules.proofs.Places.{stand-stays, apart-stays}
use Rattle.paint_rules.proofs.paint.Paint.turn_right.Goals as goal

pub invariant_of-self : goal.invariant_of-self
invariant_of-self c =
    let there = rw (← c.self.view_is) at (sym c.spot.ensures.spot ∙ c.in-Some.is) in
    rw c.put.ensures (record {
      grid = c.self.invariant.grid;
      players = (let few = c.self.invariant.players in omega (arith, few, length-set c.self.inside.players.items c.args.number (record { x = c.in-Some.spot.x; y = c.in-Some.spot.y; face = c.turned_right-face.result })));
      stand = stand-stays c.self.inside.ground c.self.inside.players.items c.args.number c.in-Some.spot _ c.self.invariant.stand there refl;
      apart = apart-stays c.self.inside.players.items c.args.number c.in-Some.spot _ c.self.invariant.apart there refl;
      owners = c.self.invariant.owners;
      count = c.self.invariant.count;
      pickups = c.self.invariant.pickups;
    })
