use Rattle.tss_program.proofs.Ends.{shown-as}
use Rattle.tss_program.proofs.asked.answer_match.Goals as goal

pub returns-in_default : goal.returns-in_default
returns-in_default g c = c.answer_looking.ensures _

pub returns-in-Lift : goal.returns-in-Lift
returns-in-Lift g c = shown-as _ _ _ _ c.in-Lift.is c.lift_asked.ensures _
