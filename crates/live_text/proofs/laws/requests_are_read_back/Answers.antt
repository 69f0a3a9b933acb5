use Rattle.live_text.proofs.TextLaws.{again}
use Rattle.live_text.proofs.laws.requests_are_read_back.Goals as goal

pub returns : goal.returns
returns c = λ t r h may. again t r h may
