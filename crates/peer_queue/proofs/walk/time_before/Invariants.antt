use Rattle.std.proofs.Common.{◌≡◌, ◌-◌, take, map}
use Rattle.peer_model.specs.Queue.{last_time}
use Rattle.peer_calls.specs.Wire.{sent_from}
use Rattle.peer_queue.proofs.walk.time_before.Given as goal

abbrev pub invariant-loop : goal.invariant-loop
invariant-loop l =
    last_time l.last (take (l.count - l.counter) (map sent_from l.commands)) ≡ last_time l.part.before (take l.count (map sent_from l.part.commands))
