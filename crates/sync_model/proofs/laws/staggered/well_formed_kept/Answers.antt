use Rattle.sync_model.proofs.Along.{well_formed-next}
use Rattle.sync_model.proofs.laws.staggered.well_formed_kept.Goals as goal

pub returns : goal.returns
returns g c = λ s e fits here. well_formed-next s e fits here
