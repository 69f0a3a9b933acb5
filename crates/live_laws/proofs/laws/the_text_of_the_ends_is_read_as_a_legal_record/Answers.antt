use Rattle.live_laws.proofs.TextLaws.{ends_of_text, ends_read, ends_verdict}
use Rattle.live_laws.proofs.laws.the_text_of_the_ends_is_read_as_a_legal_record.Goals as goal

pub returns-clause-record : goal.returns-clause-record
returns-clause-record c = λ m commands ends is may all. ends_of_text m commands ends is may all

pub returns-clause-read : goal.returns-clause-read
returns-clause-read c = λ m commands ends is may all. ends_read m commands ends is may all

pub returns-clause-verdict : goal.returns-clause-verdict
returns-clause-verdict c = λ m commands ends v is may all. ends_verdict m commands ends v is may all
