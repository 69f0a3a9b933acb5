use Rattle.live_text.proofs.TextLaws.{takes}
use Rattle.live_text.proofs.laws.requests_have_one_text.Goals as goal

pub returns : goal.returns
returns c = λ t l r h e. takes t l r h e
