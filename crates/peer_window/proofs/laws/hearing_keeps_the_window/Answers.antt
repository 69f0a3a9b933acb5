use Rattle.peer_window.proofs.Windows.{packet-window}
use Rattle.peer_window.proofs.laws.hearing_keeps_the_window.Goals as goal

pub returns : goal.returns
returns g c = λ slots room log p m v rise peer there are here. packet-window g.G.Game.rules slots room log p m v rise peer there are here
