use Rattle.sync_model.proofs.Epochs.{draft_fits}
use Rattle.sync_model.proofs.laws.drafts.draft_fits.Goals as goal

pub returns : goal.returns
returns g c = λ s copy there more. draft_fits g.G.Game.rules s copy there more
