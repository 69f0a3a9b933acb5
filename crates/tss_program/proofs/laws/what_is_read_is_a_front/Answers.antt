use Rattle.std.proofs.Common.{refl}
use Rattle.tss_program.proofs.ReadLaws.{run-reads-front, run-reads-whole, run-reads-refused, run-reads-nothing}
use Rattle.tss_program.proofs.laws.what_is_read_is_a_front.Goals as goal

pub returns-clause-front : goal.returns-clause-front
returns-clause-front c = run-reads-front

pub returns-clause-calls : goal.returns-clause-calls
returns-clause-calls c = λ r run. run.most.calls

pub returns-clause-whole : goal.returns-clause-whole
returns-clause-whole c = run-reads-whole

pub returns-clause-refused : goal.returns-clause-refused
returns-clause-refused c = run-reads-refused

pub returns-clause-nothing : goal.returns-clause-nothing
returns-clause-nothing c = run-reads-nothing

pub returns-clause-most : goal.returns-clause-most
returns-clause-most c = λ task number. (refl, refl, refl, refl, refl)
