use Rattle.tss_race.proofs.LegalLaws.{record_legal, record_verdict}
use Rattle.tss_race.proofs.laws.the_record_of_a_race_is_legal.Goals as goal

pub returns-clause-legal : goal.returns-clause-legal
returns-clause-legal g c = λ show opening m mirrors raced. record_legal show opening m mirrors raced

pub returns-clause-verdict : goal.returns-clause-verdict
returns-clause-verdict g c = λ show opening m mirrors v raced tells. record_verdict show opening m mirrors v raced tells
