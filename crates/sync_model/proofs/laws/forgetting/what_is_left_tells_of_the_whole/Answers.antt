use Rattle.sync_model.proofs.Forgetting.{as-many, copy-clocks, due-left, same-delays}
use Rattle.sync_model.proofs.laws.forgetting.what_is_left_tells_of_the_whole.Goals as goal

pub returns : goal.returns
returns g c = record {
  clock = λ b whole left h. h.clock;
  copies = λ b whole left h. as-many g.G.Game.rules b whole left h;
  clocks = λ b whole left copy h there. copy-clocks g.G.Game.rules b whole left h copy there;
  plan = λ b whole left h. same-delays g.G.Game.rules b whole left h;
  commands = λ b t whole left h. due-left b whole.accepted left.accepted h.accepted t;
}
