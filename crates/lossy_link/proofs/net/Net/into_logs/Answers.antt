use Rattle.std.proofs.Common.{◌≡◌, subst}
use Rattle.std.specs.Prelude.{IfOk}
use Rattle.match_hall.specs.Script.{logs_from}
use Rattle.lossy_link.specs.Net.{NetState}
use Rattle.lossy_link.proofs.net.Net.into_logs.Goals as goal

pub returns : goal.returns
returns g c = subst (λ (n : NetState _). IfOk c.into_logs.result (λ kept. kept ≡ logs_from 0 n.mirrors)) c.self.view_is c.into_logs.ensures
