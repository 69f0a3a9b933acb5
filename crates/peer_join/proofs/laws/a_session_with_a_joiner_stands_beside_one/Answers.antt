use Rattle.peer_join.proofs.Beside.{joins-beside}
use Rattle.peer_join.proofs.laws.a_session_with_a_joiner_stands_beside_one.Goals as goal

pub returns : goal.returns
returns g c = λ config n v log m s me plans beside free extends peer window past none some fits.
    joins-beside g.G.Game.rules config n v log m s me plans beside free extends peer window past none some fits
