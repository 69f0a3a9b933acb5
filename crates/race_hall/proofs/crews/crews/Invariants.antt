use Rattle.std.proofs.Common.{◌≡◌, ◌++◌, length}
use Rattle.race_hall.specs.Raced.{course_of}
use Rattle.race_hall.specs.Crews.{ByMirror, IsCrew, IsLockOf}
use Rattle.race_hall.proofs.crews.crews.Given as goal

abbrev pub invariant-loop-feeder : goal.invariant-loop-feeder
invariant-loop-feeder g l =
    (goal.iterator-loop-feeder g).can_next l.feeder-iterator
    × (goal.iterator-loop-feeder g).is_finite l.feeder-iterator
    × (l.fn.feeders.items ≡ l.yielded ++ l.feeder-iterator.rest.items)
    × ByMirror (λ k lock feeder crew. IsCrew (λ s. s.seat) g.G.Game.rules feeder.copies k lock.lock.table.shared.table_id feeder crew
    × IsLockOf (course_of l.m) l.opening (length l.m.commands) lock.lock.table.shared.key.opening.value lock.lock.seats) 0 l.locks.items l.yielded l.jobs.items
