use Rattle.std.proofs.Common.{arith}
use Rattle.executed_list.proofs.Lists.{first-clock-fits, pushed}
use Rattle.executed_list.proofs.segments.Segments.push.Goals as goal

pub overflow_add-index_mut-2 : goal.overflow_add-index_mut-2
overflow_add-index_mut-2 c =
    (let fits =
    first-clock-fits c.self.invariant _ _ c.index_mut-2.ensures.value c.beats_in.ensures.few
    (rw (← c.self.view_is) at c.requires) in
    omega arith)

pub invariant_of-self : goal.invariant_of-self
invariant_of-self c =
    rw (c.push_reserved.ensures.items, c.push_reserved.ensures.capacity)
    (pushed c.self.invariant c.args.x.now _ _ _ c.index_mut.ensures.value
    c.index_mut-2.ensures.value c.beats_in.ensures.count (rw (← c.self.view_is) at c.requires))
