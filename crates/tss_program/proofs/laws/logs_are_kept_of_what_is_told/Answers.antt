use Rattle.tss_program.proofs.RunLaws.{run-keeps-played, run-keeps-painted, run-keeps-raced, run-keeps-soaked}
use Rattle.tss_program.proofs.laws.logs_are_kept_of_what_is_told.Goals as goal

pub returns-clause-played : goal.returns-clause-played
returns-clause-played c = run-keeps-played

pub returns-clause-painted : goal.returns-clause-painted
returns-clause-painted c = run-keeps-painted

pub returns-clause-raced : goal.returns-clause-raced
returns-clause-raced c = run-keeps-raced

pub returns-clause-soaked : goal.returns-clause-soaked
returns-clause-soaked c = run-keeps-soaked
