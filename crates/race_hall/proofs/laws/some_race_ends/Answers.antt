use Rattle.race_hall.proofs.SomeRace.{some_raced}
use Rattle.race_hall.proofs.laws.some_race_ends.Goals as goal

pub returns : goal.returns
returns g c = λ m opening is. some_raced g.G.Game.rules m opening is
