use Rattle.sync_model.proofs.Along.{fits-next, fitted-next}
use Rattle.sync_model.proofs.laws.staggered.fits_kept.Goals as goal

pub returns : goal.returns
returns g c = λ s e f. (λ fits. fitted-next s e f fits, λ fits. fits-next s e f fits)
