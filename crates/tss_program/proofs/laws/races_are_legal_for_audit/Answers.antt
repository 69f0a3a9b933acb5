use Rattle.tss_program.proofs.AnswerLaws.{race-legal, legal-parts, race-audited}
use Rattle.tss_program.proofs.RunLaws.{race-audits}
use Rattle.tss_program.proofs.laws.races_are_legal_for_audit.Goals as goal

pub returns-clause-legal : goal.returns-clause-legal
returns-clause-legal c = race-legal

pub returns-clause-parts : goal.returns-clause-parts
returns-clause-parts c = legal-parts

pub returns-clause-verdict : goal.returns-clause-verdict
returns-clause-verdict c = race-audited

pub returns-clause-run : goal.returns-clause-run
returns-clause-run c = race-audits
