use Rattle.peer_join.proofs.Fits.{handed-opens}
use Rattle.peer_join.proofs.laws.what_a_peer_hands_over_opens_a_mirror.Goals as goal

pub returns : goal.returns
returns g c = λ config log m s world me plans rise peer window past none short ticks goes.
    handed-opens g.G.Game.rules config log m s world me plans rise peer window past none short ticks goes
