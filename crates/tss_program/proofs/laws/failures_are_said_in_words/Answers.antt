use Rattle.std.proofs.Common.{refl}
use Rattle.tss_program.proofs.Saying.{said-told}
use Rattle.tss_program.proofs.laws.failures_are_said_in_words.Goals as goal

pub returns-clause-lines : goal.returns-clause-lines
returns-clause-lines c = (refl, refl, refl)

pub returns-clause-nothing : goal.returns-clause-nothing
returns-clause-nothing c = (refl, refl, refl, refl, refl)

pub returns-clause-put : goal.returns-clause-put
returns-clause-put c = said-told
