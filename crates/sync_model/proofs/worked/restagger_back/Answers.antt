use Rattle.std.proofs.Common.{refl}
use Rattle.sync_model.proofs.Computing.{computing}
use Rattle.sync_model.proofs.worked.restagger_back.Goals as goal

pub returns : goal.returns
unfolding computing
returns g c = record {
  still = λ o. refl;
  runs = λ o. refl;
  arrival = λ o. refl;
  repaired = λ o. refl;
  step = λ o. refl;
  first_end = λ o. refl;
  clock = λ o. refl;
  over = λ o. refl;
  drained = λ o. refl;
}
