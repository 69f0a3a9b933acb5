use Rattle.std.proofs.Common.{refl, pos}
use Rattle.report_text.specs.Score.{score_data}
use Rattle.report_text.proofs.Values.{values-more, values-all}
use Rattle.report_text.proofs.score.scores_value.Goals as goal

pub loop-score-preserved : goal.loop-score-preserved
loop-score-preserved c =
    values-more score_data c.args.scores.now c.loop-score.score-index (pos 0) _ c.loop-score.values.items _ c.score_value.result c.loop-score-test.true refl
    c.loop-score.invariant c.score_value.ensures c.in_ok-push.ensures.items

pub returns : goal.returns
returns c = values-all score_data c.args.scores.now c.loop-score.score-index _ c.loop-score-test.false c.loop-score.invariant
