use Rattle.std.proofs.Common.{sym}
use Rattle.arena_rules.proofs.Worlds.{IsWorld-faced, live_of-is}
use Rattle.arena_rules.proofs.arena.Arena.turn_left.Goals as goal

pub put-requires-clause-sound : goal.put-requires-clause-sound
put-requires-clause-sound c =
    let is = live_of-is _ _ _ (sym c.in-Some.ensures.live) in
    rw (c.with_body.ensures, c.turned_to.ensures) (IsWorld-faced _ _ _ _ _ c.live.ensures.sound is.0 is.1)
