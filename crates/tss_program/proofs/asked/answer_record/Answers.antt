use Rattle.tss_program.proofs.Ends.{stopped-record, given-record}
use Rattle.tss_program.proofs.asked.answer_record.Goals as goal

pub returns-in_err-r-clause-due : goal.returns-in_err-r-clause-due
returns-in_err-r-clause-due g c ws = stopped-record ws _ _ c.from_residual.result _ c.from_residual.ensures.1 c.in_err-r.ensures.why

pub returns-clause-due : goal.returns-clause-due
returns-clause-due g c ws = given-record ws c.in_ok-r.r _ _ c.audit_asked.result c.in_ok-r.ensures.found c.audit_asked.ensures
