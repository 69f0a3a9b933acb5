use Rattle.std.proofs.Common.{◌≡◌, ◌≤◌, ◌++◌, length, vec_capacity}
use Rattle.std.specs.List.{AllZip}
use Rattle.task_threads.specs.Begun.{IsBegun}
use Rattle.task_threads.proofs.tasks.go_in.Given as goal

abbrev pub invariant-loop-task : goal.invariant-loop-task
invariant-loop-task g l =
    (goal.iterator-loop-task g).can_next l.task-iterator ×
    (goal.iterator-loop-task g).is_finite l.task-iterator ×
    record {
      parts : l.initial.task-iterator.rest.items ≡ l.yielded ++ l.task-iterator.rest.items;
      begun : AllZip (IsBegun (λ h. h.promise.task.value) g.J.Task.ends) l.yielded l.begun.items;
      number : l.number ≡ length l.yielded;
      room : length l.initial.task-iterator.rest.items ≤ vec_capacity l.begun;
    }
