use Rattle.sync_model.proofs.Drain.{draining_delivers_nothing}
use Rattle.live_mirror.specs.Session.{mirror_after}
use Rattle.live_mirror.proofs.Ends.{ended, ended-worlds}
use Rattle.live_mirror.proofs.laws.the_end_is_the_time_ordered_execution.Goals as goal

pub returns-clause-drained : goal.returns-clause-drained
unfolding mirror_after
returns-clause-drained g c = λ s is. (ended s.mirror is).drained

pub returns-clause-accepted : goal.returns-clause-accepted
unfolding mirror_after
returns-clause-accepted g c = λ s. (draining_delivers_nothing s.mirror).accepted

pub returns-clause-worlds : goal.returns-clause-worlds
unfolding mirror_after
returns-clause-worlds g c = λ s is. ended-worlds g.G.Game.rules s.mirror is
