use Rattle.std.proofs.Common.{arith}
use Rattle.executed_list.proofs.Lists.{nothing}
use Rattle.executed_list.proofs.segments.Segments.new.Goals as goal

pub invariant_of-result : goal.invariant_of-result
invariant_of-result c =
    let all = c.loop-made-test.false in
    rw (
      c.in_ok-with_capacity.ensures.items,
      c.in_ok-with_capacity.ensures.exact,
      c.loop-made.invariant.ends,
      c.loop-made.invariant.clocks,
    )
    (nothing _ _ _ (let some = c.requires.0 in let few = c.requires.1 in (omega arith, omega arith))
    (omega arith) (omega arith))
