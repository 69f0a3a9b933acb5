use Rattle.peer_model.proofs.Starting.{opening-unused, new-session}
use Rattle.peer_model.proofs.laws.net.a_new_net_is_a_session.Goals as goal

pub returns-clause-net : goal.returns-clause-net
returns-clause-net g c = λ slots wholes unused. new-session slots wholes unused

pub returns-clause-mirror : goal.returns-clause-mirror
returns-clause-mirror g c = λ opening length plans spare plan_spare. opening-unused opening length plans spare plan_spare
