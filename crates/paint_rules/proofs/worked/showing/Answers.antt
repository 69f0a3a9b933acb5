use Rattle.std.proofs.Common.{refl}
use Rattle.game_trait.specs.Count.{times}
use Rattle.paint_rules.specs.Owners.{unowned}
use Rattle.paint_rules.proofs.Computing.{computing}
use Rattle.paint_rules.proofs.worked.showing.Goals as goal

pub returns : goal.returns
unfolding computing unowned times
returns c = refl
