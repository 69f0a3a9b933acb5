use Rattle.run_auditor.proofs.VerdictLaws.{some_verdict, one_verdict}
use Rattle.run_auditor.proofs.laws.one_verdict.Goals as goal

pub returns-clause-some : goal.returns-clause-some
returns-clause-some g c = some_verdict

pub returns-clause-one : goal.returns-clause-one
returns-clause-one g c = one_verdict
