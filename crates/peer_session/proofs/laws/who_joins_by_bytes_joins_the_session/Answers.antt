use Rattle.peer_session.proofs.Joins.{joins-session}
use Rattle.peer_session.proofs.laws.who_joins_by_bytes_joins_the_session.Goals as goal

pub returns : goal.returns
returns g c = λ config n v log m s me plans bytes p beside free extends peer window there kept past none some ticks put joins.
    joins-session g.G.Game.rules config n v log m s me plans bytes p beside free extends peer window there kept past none some ticks put joins
