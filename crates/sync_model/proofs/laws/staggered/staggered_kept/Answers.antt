use Rattle.sync_model.proofs.Staggered.{staggered_kept}
use Rattle.sync_model.proofs.laws.staggered.staggered_kept.Goals as goal

pub returns : goal.returns
returns g c = λ s e fits here. staggered_kept s e fits here
