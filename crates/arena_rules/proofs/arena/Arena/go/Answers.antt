use Rattle.std.proofs.Common.{◌≡◌, false, Some, ap, sym, ◌∙◌, subst}
use Rattle.match_setup.specs.Facing.{ahead, open_ahead}
use Rattle.match_setup.specs.Ground.{Grid}
use Rattle.arena_rules.specs.Player.{is_held}
use Rattle.match_setup.specs.Setup.{spot_cell}
use Rattle.arena_rules.specs.World.{World}
use Rattle.arena_rules.proofs.Shots.{open_spot-open}
use Rattle.arena_rules.proofs.Worlds.{IsWorld-arrived, live_of-is}
use Rattle.arena_rules.proofs.arena.Arena.go.Goals as goal

pub arrive-requires-clause-sound : goal.arrive-requires-clause-sound
arrive-requires-clause-sound c =
    let world : World = c.args.self.now in
    let is = live_of-is _ _ _ (sym c.in-Some.ensures.live) in
    let ground : c.self.inside.ground ≡ world.grid = ap (λ (w : World). w.grid) c.self.view_is in
    let players : c.self.inside.players ≡ world.players = ap (λ (w : World). w.players) c.self.view_is in
    let found : open_ahead world.grid c.in-Some.body.spot ≡ Some c.in-Some-open_ahead.spot =
    subst (λ (g : Grid). open_ahead g c.in-Some.body.spot ≡ Some c.in-Some-open_ahead.spot) ground
    (sym c.open_ahead.ensures.ahead ∙ c.in-Some-open_ahead.is) in
    let free : is_held world.players (spot_cell c.in-Some-open_ahead.spot) ≡ false = rw players at (sym c.is_held.ensures ∙ c.if-not-is_held.true) in
    IsWorld-arrived world c.args.number c.in-Some.player c.in-Some.body c.in-Some-open_ahead.spot c.live.ensures.sound is.0 is.1
    (open_spot-open world.grid c.in-Some.body.spot.face (ahead c.in-Some.body.spot.face (spot_cell c.in-Some.body.spot)) c.in-Some-open_ahead.spot found)
    free
