use Rattle.match_file.proofs.RosterLaws.{roster_next}
use Rattle.match_file.proofs.parts.roster_of.Goals as goal

pub loop-player-preserved : goal.loop-player-preserved
loop-player-preserved c = roster_next c.args.players.now c.loop-player.player-index _ _ _ c.loop-player-test.true
    c.requires c.loop-player.invariant (rw (c.as_slice.ensures, c.player-item.is) at c.in_ok-add.ensures.ok)
