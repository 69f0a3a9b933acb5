use Rattle.sync_model.proofs.Alone.{well_formed-parts, third_copy-ill, third_plan-ill}
use Rattle.sync_model.proofs.pinned.well_formed_parts.Goals as goal

pub returns : goal.returns
returns g c = record { parts = λ s. well_formed-parts s; third_copy = λ o. third_copy-ill o; third_plan = λ o. third_plan-ill o }
