use Rattle.std.proofs.Common.{◌-◌, arith}
use Rattle.std.proofs.lemmas.List.Edits.{map_over_more}
use Rattle.executed_list.proofs.ends.lower.Goals as goal

pub loop-i-preserved : goal.loop-i-preserved
loop-i-preserved c =
    let test = c.loop-i-test.true in
    let end = c.len-i-end.ensures in
    let long = c.args.list.now.ok.0 in
    map_over_more (λ k. k - c.args.by) c.args.list.now.items c.loop-i.list.items c.loop-i.i
    c.index_mut.result.now (omega arith) c.loop-i.invariant c.index_mut.ensures.value
