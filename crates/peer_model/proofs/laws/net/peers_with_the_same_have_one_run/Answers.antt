use Rattle.std.proofs.Common.{ap, sym, ◌∙◌}
use Rattle.game_trait.specs.Run.{world_of}
use Rattle.peer_model.proofs.Converging.{ends-in-order}
use Rattle.peer_model.proofs.laws.net.peers_with_the_same_have_one_run.Goals as goal

pub returns : goal.returns
returns g c = λ slots t n i j opening here left right.
    ap (world_of g.G.Game.rules opening)
    (ends-in-order slots t n.log (n.peers i) (here.peers i) left ∙ sym (ends-in-order slots t n.log (n.peers j) (here.peers j) right))
