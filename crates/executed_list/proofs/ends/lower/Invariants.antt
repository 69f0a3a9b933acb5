use Rattle.std.proofs.Common.{◌≡◌, ◌++◌, ◌-◌, map, take, drop}
use Rattle.executed_list.proofs.ends.lower.Given as goal

abbrev pub invariant-loop-i : goal.invariant-loop-i
invariant-loop-i l =
    l.list.items ≡ map (λ k. k - l.by) (take l.i l.fn.list.items) ++ drop l.i l.fn.list.items
