use Rattle.endless_mirror.proofs.Own.{own-taken}
use Rattle.endless_mirror.proofs.laws.own_commands_are_taken.Goals as goal

pub returns : goal.returns
returns g c = λ s player act is fits. own-taken s player act is fits
