use Rattle.endless_mirror.proofs.Steps.{has-come, has-waited}
use Rattle.endless_mirror.proofs.laws.what_is_answered_has_come.Goals as goal

pub returns-clause-came : goal.returns-clause-came
returns-clause-came g c = λ b whole x a some. has-come b whole x a some

pub returns-clause-waits : goal.returns-clause-waits
returns-clause-waits g c = λ b whole x a none. has-waited b whole x a none
