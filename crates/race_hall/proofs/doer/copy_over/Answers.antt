use Rattle.turn_lock.specs.Views.{view}
use Rattle.race_hall.proofs.Posting.{readied-bare}
use Rattle.race_hall.proofs.doer.copy_over.Goals as goal

pub new-post-requires-clause-kept : goal.new-post-requires-clause-kept
new-post-requires-clause-kept g c = readied-bare g.G.Game.rules _ (view c.args.seat.seat) c.requires.can.bare
