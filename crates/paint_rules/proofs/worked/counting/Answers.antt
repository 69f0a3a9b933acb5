use Rattle.std.proofs.Common.{refl}
use Rattle.game_trait.specs.Count.{times}
use Rattle.paint_rules.specs.Owners.{unowned}
use Rattle.paint_rules.proofs.worked.counting.Goals as goal

pub returns : goal.returns
unfolding unowned times
returns c = record { nobody = refl; one = refl; more = refl; fewer = refl; again = refl }
