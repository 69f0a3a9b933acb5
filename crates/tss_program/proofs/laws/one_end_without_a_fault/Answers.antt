use Rattle.tss_program.proofs.RunLaws.{run-one-end}
use Rattle.tss_program.proofs.laws.one_end_without_a_fault.Goals as goal

pub returns : goal.returns
returns c = run-one-end
