use Rattle.std.proofs.Common.{◌≡◌, ◌++◌, map, drop}
use Rattle.report_text.specs.Score.{standing_of}
use Rattle.match_score.specs.Score.{standings}
use Rattle.match_score.proofs.rows.rows.Given as goal

abbrev pub invariant-loop-number : goal.invariant-loop-number
invariant-loop-number l = map standing_of l.rows.items ++ standings l.number (drop l.number l.hall) ≡ standings 0 l.hall
