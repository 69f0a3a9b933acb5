-- What an audit prints.
use Rattle.std.specs.Prelude.{ℕ, List, [], ◌∷◌, ◌++◌, codes, decimal}
use Rattle.tss_io.specs.Lines.{as_line, spaced}
use Rattle.report_text.specs.Ends.{done_line}
use Rattle.run_auditor.specs.declared.verdict.Verdict.{Verdict}
use Rattle.run_auditor.specs.declared.verdict.Verdict.TheVariants.{Legal, NotLegal}
use Rattle.run_auditor.specs.declared.why.Why.{Why}
use Rattle.run_auditor.specs.declared.why.Why.TheVariants.{Over, Repeat, Idle, World}

-- the word of a cause
abbrev pub why_word : Why → List ℕ
why_word Over = codes "over"
why_word Repeat = codes "repeat"
why_word Idle = codes "idle"
why_word World = codes "world"

-- that a record is legal, and how many events it has, or where its first fault is
unfoldable pub verdict_text : Verdict → List ℕ
verdict_text (Legal events) = as_line (spaced (codes "legal" ∷ decimal events ∷ [])) ++ done_line
verdict_text (NotLegal mirror place why) = as_line (spaced (
    codes "not" ∷ codes "legal" ∷ codes "mirror" ∷ decimal mirror ∷ codes "place" ∷ decimal place
    ∷ codes "why" ∷ why_word why ∷ []))
