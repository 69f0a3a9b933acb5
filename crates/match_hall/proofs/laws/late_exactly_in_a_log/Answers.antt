use Rattle.match_hall.proofs.Headline.{played-late, played-taken}
use Rattle.match_hall.proofs.laws.late_exactly_in_a_log.Goals as goal

pub returns : goal.returns
returns g c = record { late = played-late g.G.Game.rules; taken = played-taken g.G.Game.rules; any = λ m start end log n x bound played. played.late n x bound }
