use Rattle.match_hall.proofs.Headline.{played-front, played-end}
use Rattle.match_hall.proofs.laws.staggered_after_each_front.Goals as goal

pub returns-clause-front : goal.returns-clause-front
returns-clause-front g c = played-front g.G.Game.rules

pub returns-clause-end : goal.returns-clause-end
returns-clause-end g c = played-end g.G.Game.rules
