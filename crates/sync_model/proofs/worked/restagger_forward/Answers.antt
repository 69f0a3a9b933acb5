use Rattle.std.proofs.Common.{refl}
use Rattle.sync_model.proofs.Computing.{computing}
use Rattle.sync_model.proofs.worked.restagger_forward.Goals as goal

pub returns : goal.returns
unfolding computing
returns g c = record {
  before = λ o. refl;
  full = λ o. refl;
  answer = λ o. refl;
  steps = λ o. refl;
  runs = λ o. refl;
  late = λ o. refl;
  plan = λ o. refl;
  plan_spare = λ o. refl;
  history = λ o. refl;
  clock = λ o. refl;
  over = λ o. refl;
  drained = λ o. refl;
}
