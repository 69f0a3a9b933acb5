use Rattle.report_text.specs.Score.{row_data}
use Rattle.report_text.proofs.Values.{values-more, values-all}
use Rattle.report_text.proofs.score.rows_value.Goals as goal

pub loop-row-preserved : goal.loop-row-preserved
loop-row-preserved c =
    values-more row_data c.args.rows.now c.loop-row.row-index _ _ c.loop-row.values.items _ c.in_ok-row_value.field-0 c.loop-row-test.true c.row-item.is
    c.loop-row.invariant c.in_ok-row_value.ensures c.in_ok-push.ensures.items

pub returns : goal.returns
returns c = values-all row_data c.args.rows.now c.loop-row.row-index _ c.loop-row-test.false c.loop-row.invariant
