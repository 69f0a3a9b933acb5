use Rattle.soak.proofs.Soaked.{soaked}
use Rattle.soak.proofs.laws.no_command_is_late.Goals as goal

pub returns : goal.returns
returns g c = λ opening seed mirror spare plan_spare. soaked g.G.Game.rules opening seed mirror spare plan_spare
