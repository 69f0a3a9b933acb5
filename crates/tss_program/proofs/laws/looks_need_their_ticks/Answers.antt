use Rattle.tss_program.proofs.NeedLaws.{looks-refused, looks-due-refused}
use Rattle.tss_program.proofs.laws.looks_need_their_ticks.Goals as goal

pub returns-clause-refused : goal.returns-clause-refused
returns-clause-refused c = λ m room ticks tick there past. looks-refused room ticks m tick there past

pub returns-clause-due : goal.returns-clause-due
returns-clause-due c = looks-due-refused
