use Rattle.std.proofs.Common.{◌≤◌, List, length, vec_len, vec_capacity, ◌+◌}
use Rattle.std.specs.List.{AllZip}
use Rattle.task_threads.specs.Begun.{IsGoing}
use Rattle.task_threads.proofs.Passing.{Passed}
use Rattle.task_threads.proofs.tasks.join_all.Given as goal

abbrev pub invariant-loop-one : goal.invariant-loop-one
invariant-loop-one g l =
    (goal.iterator-loop-one g).can_next l.one-iterator ×
    (goal.iterator-loop-one g).is_finite l.one-iterator ×
    record {
      passed : (jobs : List _) → AllZip (IsGoing (λ h. h.promise.task.value) g.J.Task.ends) jobs l.fn.going.items
          → Passed (IsGoing (λ h. h.promise.task.value) g.J.Task.ends) g.J.Task.ends jobs l.ends.items l.one-iterator.rest.items;
      room : vec_len l.ends + length l.one-iterator.rest.items ≤ vec_capacity l.ends;
    }
