use Rattle.line_talk.proofs.FrontLaws.{front-none}
use Rattle.line_talk.proofs.laws.a_front_may_be_empty.Goals as goal

pub returns : goal.returns
returns c = λ side. front-none side
