use Rattle.soak.proofs.Agreed.{all-agree}
use Rattle.soak.proofs.laws.all_copies_agree.Goals as goal

pub returns : goal.returns
returns g c = λ opening seed. all-agree g.G.Game.rules opening seed (c.each_mirror_takes_every_command.ensures opening seed)
