use Rattle.live_laws.proofs.RecordLaws.{told_behind, still_a_match, text_same, record_legal, record_verdict}
use Rattle.live_laws.proofs.laws.the_record_of_the_ends_is_legal.Goals as goal

pub returns-clause-told : goal.returns-clause-told
returns-clause-told g c = λ show s. told_behind show s

pub returns-clause-game : goal.returns-clause-game
returns-clause-game g c = λ m commands is may. still_a_match m commands is may

pub returns-clause-text : goal.returns-clause-text
returns-clause-text g c = λ show m ends. text_same show m ends

pub returns-clause-legal : goal.returns-clause-legal
returns-clause-legal g c = λ show opening m commands ends is may each. record_legal show opening m commands ends is may each

pub returns-clause-verdict : goal.returns-clause-verdict
returns-clause-verdict g c = λ show opening m commands ends v is may each tells. record_verdict show opening m commands ends v is may each tells
