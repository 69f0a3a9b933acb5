use Rattle.std.proofs.Common.{◌≡◌, ◌-◌, drop, min, length}
use Rattle.peer_queue.proofs.walk.behind.Given as goal

abbrev pub invariant-loop : goal.invariant-loop
invariant-loop l = (drop (l.end - l.counter) l.commands ≡ drop l.end l.part.commands) × (l.end ≡ min l.count (length l.part.commands))
