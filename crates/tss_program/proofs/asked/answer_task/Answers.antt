use Rattle.tss_program.proofs.Ends.{stopped-match, given-match}
use Rattle.tss_program.proofs.asked.answer_task.Goals as goal

pub returns-in_err-m-clause-due : goal.returns-in_err-m-clause-due
returns-in_err-m-clause-due g c = stopped-match _ c.args.task _ _ c.from_residual.result _ c.from_residual.ensures.1 c.in_err-m.ensures.why

pub returns-clause-due : goal.returns-clause-due
returns-clause-due g c = given-match _ c.args.task c.in_ok-m.m _ _ c.answer_match.result c.in_ok-m.ensures.found c.answer_match.ensures
