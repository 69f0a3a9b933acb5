use Rattle.sync_model.proofs.Rebuilt.{rebuilt_level}
use Rattle.sync_model.proofs.laws.settling.rebuilt_level.Goals as goal

pub returns : goal.returns
returns c = λ accepted ahead base far. rebuilt_level accepted ahead base far
