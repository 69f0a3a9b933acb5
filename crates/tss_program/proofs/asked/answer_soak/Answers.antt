use Rattle.tss_program.proofs.Ends.{given-number}
use Rattle.tss_program.proofs.asked.answer_soak.Goals as goal

pub returns : goal.returns
returns c ws old = given-number ws c.args.number old _ c.in_ok-soak_number.ensures
