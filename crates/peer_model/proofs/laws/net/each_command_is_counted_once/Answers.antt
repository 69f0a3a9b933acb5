use Rattle.peer_model.proofs.Starting.{names-once}
use Rattle.peer_model.proofs.laws.net.each_command_is_counted_once.Goals as goal

pub returns-clause-names : goal.returns-clause-names
returns-clause-names g c = λ slots log m o n here there. names-once slots log m o n here there

pub returns-clause-commands : goal.returns-clause-commands
returns-clause-commands g c = λ slots log m here. (here.counted.away, here.counted.once, here.counted.told, here.counted.late)
