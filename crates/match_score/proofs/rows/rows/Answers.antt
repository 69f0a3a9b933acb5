use Rattle.std.proofs.Common.{◌<◌, ◌≤◌, length, arith}
use Rattle.sync_model.specs.Turns.{IsDrained}
use Rattle.match_hall.specs.Few.{IsFew}
use Rattle.match_score.proofs.RowByRow.{all-got, standings-next, standings-all}
use Rattle.match_score.proofs.rows.rows.Goals as goal

pub row-requires-clause-few : goal.row-requires-clause-few
row-requires-clause-few c =
    (c.requires.few.0, all-got (IsFew c.requires.few.0) c.args.hall.now c.loop-number.number _ c.requires.few.1 c.mirror.ensures, c.requires.few.2)

pub row-requires-clause-drained : goal.row-requires-clause-drained
row-requires-clause-drained c = all-got (λ s. IsDrained s) c.args.hall.now c.loop-number.number _ c.requires.drained c.mirror.ensures

pub loop-number-preserved : goal.loop-number-preserved
loop-number-preserved c =
    let below : c.loop-number.number < length c.args.hall.now = omega (arith, c.requires.mirrors, c.loop-number-test.true) in
    standings-next c.args.hall.now c.loop-number.number _ _ _ _ below c.mirror.ensures c.row.ensures c.loop-number.invariant c.in_ok-push.ensures.items

pub returns : goal.returns
returns c =
    let past : length c.args.hall.now ≤ c.loop-number.number = omega (arith, c.requires.mirrors, c.loop-number-test.false) in
    standings-all c.args.hall.now c.loop-number.number _ past c.loop-number.invariant
