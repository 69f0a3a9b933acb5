use Rattle.sync_model.proofs.Rebuilt.{rebuilt_twice}
use Rattle.sync_model.proofs.laws.settling.rebuilt_twice.Goals as goal

pub returns : goal.returns
returns c = λ accepted ahead middle base low high. rebuilt_twice accepted ahead middle base low high
