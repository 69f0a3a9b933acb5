use Rattle.tss_program.proofs.NeedLaws.{join-refused, join-due-refused}
use Rattle.tss_program.proofs.laws.joins_need_their_mirror.Goals as goal

pub returns-clause-refused : goal.returns-clause-refused
returns-clause-refused c = λ m number lines due none is. join-refused number lines m due none is

pub returns-clause-due : goal.returns-clause-due
returns-clause-due c = join-due-refused
