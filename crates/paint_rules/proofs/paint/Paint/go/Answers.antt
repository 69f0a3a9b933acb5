use Rattle.std.proofs.Common.{◌≡◌, ◌∙◌, sym, Some, length-set, arith}
use Rattle.match_setup.specs.Facing.{open_ahead}
use Rattle.paint_rules.proofs.Places.{ahead-open, owners-painted, stand-set, apart-set}
use Rattle.paint_rules.proofs.Steps.{is_open-near}
use Rattle.paint_rules.proofs.paint.Paint.go.Goals as goal

pub invariant_of-self : goal.invariant_of-self
invariant_of-self c =
    let found : open_ahead c.self.inside.ground c.in-Some.spot ≡ Some c.in-Some-open_ahead.next =
    sym c.open_ahead.ensures.ahead ∙ c.in-Some-open_ahead.is in
    let free = ahead-open c.self.inside.ground c.in-Some.spot c.in-Some-open_ahead.next found in
    let unheld = rw c.deref.ensures.0 at (sym c.is_held.ensures ∙ c.if-not-is_held.true) in
    let small = c.in-Some.ensures.known c.in-Some.ensures.there in
    let near = is_open-near c.self.inside.ground c.in-Some-open_ahead.next.x c.in-Some-open_ahead.next.y c.self.invariant.grid free in
    rw (c.put.ensures, c.paint.ensures) (record {
      grid = c.self.invariant.grid;
      players = (let few = c.self.invariant.players in
          omega (arith, few, length-set c.self.inside.players.items c.args.number c.in-Some-open_ahead.next));
      stand = stand-set c.self.inside.ground c.self.inside.players.items c.args.number c.in-Some-open_ahead.next c.self.invariant.stand free;
      apart = apart-set c.self.inside.players.items c.args.number c.in-Some-open_ahead.next c.self.invariant.apart unheld;
      owners = owners-painted c.self.inside.ground c.self.inside.board.owners
          (record { x = c.in-Some-open_ahead.next.x; y = c.in-Some-open_ahead.next.y }) c.args.number near.0 free
          (omega (arith, small)) c.self.invariant.owners;
      count = c.self.invariant.count;
      pickups = c.self.invariant.pickups;
    })
