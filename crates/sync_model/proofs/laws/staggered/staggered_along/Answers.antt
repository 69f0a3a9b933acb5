use Rattle.sync_model.proofs.Along.{staggered_along}
use Rattle.sync_model.proofs.laws.staggered.staggered_along.Goals as goal

pub returns : goal.returns
returns g c = λ s es fit here. staggered_along es s fit here
