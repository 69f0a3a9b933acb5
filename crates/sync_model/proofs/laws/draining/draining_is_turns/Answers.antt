use Rattle.sync_model.proofs.Drain.{draining_is_turns}
use Rattle.sync_model.proofs.laws.draining.draining_is_turns.Goals as goal

pub returns : goal.returns
returns g c = λ s. draining_is_turns s
