use Rattle.tss_program.proofs.RunLaws.{run-loses-nothing}
use Rattle.tss_program.proofs.laws.nets_lose_nothing.Goals as goal

pub returns : goal.returns
returns c = run-loses-nothing
