use Rattle.endless_mirror.proofs.Remembered.{last-told, later-due}
use Rattle.endless_mirror.proofs.laws.the_end_tells_what_is_remembered.Goals as goal

pub returns-clause-world : goal.returns-clause-world
returns-clause-world g c = λ lines names s is. last-told g.G.Game.rules s.mirror is lines names s.number

pub returns-clause-due : goal.returns-clause-due
returns-clause-due g c = λ s. later-due s.mirror.base s.mirror.left.accepted
