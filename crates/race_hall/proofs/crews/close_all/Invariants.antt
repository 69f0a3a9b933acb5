use Rattle.std.proofs.Common.{◌≡◌, ◌+◌, ◌≤◌, ℕ, List, length, vec_len, vec_capacity}
use Rattle.std.specs.List.{AllByRecursion}
use Rattle.copy_workers.specs.declared.feeder_job.FeederJob.{FeederJob}
use Rattle.race_hall.specs.Race.{Course, first_plan}
use Rattle.race_hall.specs.Crews.{ByMirror, IsCrewDone, IsLockOf, AllClosed, IsRoomy}
use Rattle.race_hall.proofs.ClosedCrews.{Going}
use Rattle.race_hall.proofs.crews.close_all.Given as goal

abbrev pub invariant-loop-lock : goal.invariant-loop-lock
invariant-loop-lock g l =
    (goal.iterator-loop-lock g).can_next l.lock-iterator
    × (goal.iterator-loop-lock g).is_finite l.lock-iterator
    × record {
      room : (length l.lock-iterator.rest.items ≤ length l.seats.rest.items)
          × (vec_len l.mirrors + length l.lock-iterator.rest.items ≤ vec_capacity l.mirrors)
          × (vec_len l.feeders + length l.lock-iterator.rest.items ≤ vec_capacity l.feeders);
      seats : AllByRecursion (λ v. IsRoomy l.copies v.items (vec_capacity v)) l.seats.rest.items;
      going : (c : Course) (opening : _) (spare : ℕ) (jobs : List FeederJob) → l.copies ≡ length (first_plan c)
          → ByMirror (λ k lock job crew. IsCrewDone (λ s. s.seat) l.copies lock.lock.table.shared.table_id job crew
          × IsLockOf c opening spare lock.lock.table.shared.key.opening.value lock.lock.seats) 0 l.fn.locks.items jobs l.fn.ends.items
          → Going (λ k lock job crew. IsCrewDone (λ s. s.seat) l.copies lock.lock.table.shared.table_id job crew
          × IsLockOf c opening spare lock.lock.table.shared.key.opening.value lock.lock.seats)
          (AllClosed c opening spare) jobs l.feeders.items l.mirrors.items l.lock-iterator.rest.items l.ends.rest.items;
    }
