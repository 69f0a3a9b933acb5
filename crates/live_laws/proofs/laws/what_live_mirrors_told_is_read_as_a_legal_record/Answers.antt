use Rattle.live_laws.specs.Arena.{arena_staging}
use Rattle.live_laws.specs.Talks.{states_of}
use Rattle.live_laws.proofs.EndLaws.{all_talks_end}
use Rattle.live_laws.proofs.TextLaws.{ends_read, ends_verdict}
use Rattle.live_laws.proofs.laws.what_live_mirrors_told_is_read_as_a_legal_record.Goals as goal

pub returns-clause-read : goal.returns-clause-read
returns-clause-read c = λ m commands talks is all. let ends = all_talks_end arena_staging m commands talks all in ends_read m commands (states_of talks) is ends.0 ends.1

pub returns-clause-verdict : goal.returns-clause-verdict
returns-clause-verdict c = λ m commands talks v is all. let ends = all_talks_end arena_staging m commands talks all in ends_verdict m commands (states_of talks) v is ends.0 ends.1
