use Rattle.std.proofs.Common.{refl}
use Rattle.sync_model.proofs.Computing.{computing}
use Rattle.sync_model.proofs.worked.opposite_orders.Goals as goal

pub returns : goal.returns
unfolding computing
returns g c = record { answer = λ o. refl; runs = λ o. refl; step = λ o. refl; accepted = λ o. refl; drained = λ o. refl; in_order = λ o. refl; before = λ o. refl }
