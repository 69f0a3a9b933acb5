use Rattle.peer_join.proofs.Opens.{opens-rolled}
use Rattle.peer_join.proofs.open.open_mirror.Goals as goal

pub returns-clause-rolled : goal.returns-clause-rolled
returns-clause-rolled g c =
    opens-rolled g.G.Game.rules c.args.snap.now c.args.plans.now c.args.room c.args.keep c.open_at.result c.requires.openable c.requires.at_base c.open_at.ensures.state c.open_at.ensures.window
