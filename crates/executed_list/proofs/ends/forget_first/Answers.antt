use Rattle.std.proofs.Common.{arith}
use Rattle.executed_list.proofs.Forgotten.{told-more}
use Rattle.executed_list.proofs.ends.forget_first.Goals as goal

pub loop-i-preserved : goal.loop-i-preserved
loop-i-preserved c =
    let inv = c.loop-i.invariant in
    let test = c.loop-i-test.true in
    let all = c.len.ensures in
    let long = c.args.items.now.ok.0 in
    record {
      items =
          told-more c.args.items.now.items c.loop-i.items.items c.args.n c.args.t c.loop-i.i _ _
          (omega arith) inv.items c.index.ensures c.earlier.ensures;
      len = inv.len;
      capacity = inv.capacity;
    }
