use Rattle.sync_model.proofs.History.{changing_events_suffice}
use Rattle.sync_model.proofs.laws.history.changing_events_suffice.Goals as goal

pub returns : goal.returns
returns g c = λ s es. changing_events_suffice es s
