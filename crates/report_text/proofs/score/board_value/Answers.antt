use Rattle.std.proofs.Common.{ap, ◌∙◌}
use Rattle.serde_json.specs.Data.{object}
use Rattle.serde_json.specs.View.{members_view}
use Rattle.serde_json.proofs.Views.{view-Object}
use Rattle.report_text.proofs.Values.{board-members, board-of}
use Rattle.report_text.proofs.score.board_value.Goals as goal

pub returns : goal.returns
returns c =
    view-Object c.put-2.new.map
    ∙ (ap object (board-members _ _ _ _ _ (ap members_view c.new-members.ensures.empty) c.in_ok-put.ensures.ok c.in_ok-put-2.ensures.ok)
    ∙ board-of c.args.names.now c.args.rows.now _ _ c.in_ok-rows.ensures c.in_ok-names.ensures)
