use Rattle.line_talk.proofs.WholeLaws.{one-past}
use Rattle.line_talk.proofs.laws.one_byte_past_the_limit_is_heard.Goals as goal

pub returns : goal.returns
returns g c = λ h old new limit text p. one-past g.A.Answerer.way h old new limit text p
