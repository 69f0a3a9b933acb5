use Rattle.std.proofs.Common.{◌≡◌, length}
use Rattle.executed_list.specs.Segments.{filled}
use Rattle.trailing_copy.proofs.repairs.bring_to_list_end.Given as goal

abbrev pub invariant-loop-c : goal.invariant-loop-c
invariant-loop-c l =
    l.run ≡ record l.fn.run { ends = filled l.c (length l.fn.run.items) l.fn.run.ends }
