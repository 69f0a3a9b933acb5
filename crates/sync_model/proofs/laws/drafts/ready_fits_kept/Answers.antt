use Rattle.sync_model.proofs.Epochs.{ready_fits_kept}
use Rattle.sync_model.proofs.laws.drafts.ready_fits_kept.Goals as goal

pub returns : goal.returns
returns g c = λ s e r here fits. ready_fits_kept g.G.Game.rules s e r here fits
