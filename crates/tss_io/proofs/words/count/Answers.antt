use Rattle.std.proofs.Common.{arith}
use Rattle.tss_io.proofs.WordLists.{count_on}
use Rattle.tss_io.proofs.words.count.Goals as goal

pub loop-after-preserved : goal.loop-after-preserved
loop-after-preserved c =
    let more = count_on c.loop-after.rest.now (c.in-Some.field-0-0.now, c.in-Some.after.now) c.in-Some.ensures.parts in
    let both = c.loop-after.invariant in
    let less = c.in-Some.ensures.shorter in
    (omega arith, omega arith)
