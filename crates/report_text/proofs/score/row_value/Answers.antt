use Rattle.std.proofs.Common.{ap, ◌∙◌}
use Rattle.serde_json.specs.Data.{object}
use Rattle.serde_json.specs.View.{members_view}
use Rattle.serde_json.proofs.Views.{view-Object}
use Rattle.report_text.specs.Score.{scores_data}
use Rattle.report_text.proofs.Values.{row-members, row-of}
use Rattle.report_text.proofs.score.row_value.Goals as goal

pub returns : goal.returns
returns c =
    view-Object c.put-5.new.map
    ∙ (ap object (row-members _ _ _ _ _ _ _ _ _ _ _ (ap members_view c.new-members.ensures.empty) c.in_ok-put.ensures.ok
    c.in_ok-put-2.ensures.ok c.in_ok-put-3.ensures.ok c.in_ok-put-4.ensures.ok c.in_ok-put-5.ensures.ok)
    ∙ row-of c.args.row.now _ _ _ _ _ c.from.ensures c.from-2.ensures c.from-3.ensures (c.in_ok-scores.ensures ∙ ap scores_data c.as_slice.ensures.value) c.from-4.ensures)
