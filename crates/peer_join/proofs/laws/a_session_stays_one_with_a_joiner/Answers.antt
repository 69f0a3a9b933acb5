use Rattle.peer_join.proofs.Joins.{joined-session}
use Rattle.peer_join.proofs.laws.a_session_stays_one_with_a_joiner.Goals as goal

pub returns : goal.returns
returns g c = λ slots me n plans accepted m some same here peer free. joined-session slots me n plans accepted m some same here peer free
