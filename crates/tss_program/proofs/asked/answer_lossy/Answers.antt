use Rattle.tss_program.proofs.Ends.{stopped-lossy, given-lossy}
use Rattle.tss_program.proofs.asked.answer_lossy.Goals as goal

pub returns-in_err-x-clause-due : goal.returns-in_err-x-clause-due
returns-in_err-x-clause-due g c ws = stopped-lossy ws _ _ c.from_residual.result _ c.from_residual.ensures.1 c.in_err-x.ensures.why

pub returns-clause-due : goal.returns-clause-due
returns-clause-due g c ws = given-lossy ws c.in_ok-x.x _ _ c.lossy_asked.result c.in_ok-x.ensures.found c.lossy_asked.ensures
