use Rattle.match_hall.proofs.Headline.{played-AllPlayed}
use Rattle.match_hall.proofs.laws.played_mirrors_keep_the_headline.Goals as goal

pub returns : goal.returns
returns g c = played-AllPlayed g.G.Game.rules
