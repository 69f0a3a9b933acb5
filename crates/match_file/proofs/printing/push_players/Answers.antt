use Rattle.match_file.proofs.PrintLaws.{players_none, players_next}
use Rattle.match_file.proofs.printing.push_players.Goals as goal

pub loop-player-init : goal.loop-player-init
loop-player-init c = players_none c.args.roster.now c.args.homes.now c.args.out.now.items

pub loop-player-preserved : goal.loop-player-preserved
loop-player-preserved c = players_next c.args.roster.now c.args.homes.now c.loop-player.player _ _ _ _
    c.loop-player-test.true c.requires.named c.loop-player.invariant
    (rw c.name_of.ensures at c.in_ok-push_player.ensures)
