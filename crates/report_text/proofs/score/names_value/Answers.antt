use Rattle.std.proofs.Common.{arith}
use Rattle.report_text.proofs.Values.{names-all}
use Rattle.report_text.proofs.score.names_value.Goals as goal

pub returns : goal.returns
returns c =
    names-all c.args.names.now c.loop-place.place _ (omega (arith, c.len-place-end.ensures, c.loop-place-test.false)) c.loop-place.invariant
