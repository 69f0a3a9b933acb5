use Rattle.line_talk.proofs.FrontLaws.{front-is_head}
use Rattle.line_talk.proofs.laws.an_opening_is_the_first_line.Goals as goal

pub returns : goal.returns
returns c = λ head opening bytes one short is front begins. front-is_head head opening bytes one short is front begins
