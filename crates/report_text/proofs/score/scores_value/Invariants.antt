use Rattle.std.proofs.Common.{◌≡◌, map, take}
use Rattle.serde_json.specs.View.{view}
use Rattle.report_text.specs.Score.{score_data}
use Rattle.report_text.proofs.score.scores_value.Given as goal

abbrev pub invariant-loop-score : goal.invariant-loop-score
invariant-loop-score l = map view l.values.items ≡ map score_data (take l.score-index l.scores)
