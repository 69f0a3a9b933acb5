use Rattle.std.proofs.Common.{map, length, false}
use Rattle.peer_window.specs.Window.{rolls_parts}
use Rattle.peer_calls.specs.Wire.{part_from}
use Rattle.peer_calls.specs.Hearing.{tells_parts}
use Rattle.peer_slots.specs.Queues.{queues_of, window_at}
use Rattle.peer_slots.proofs.Parted.{IsHearing}
use Rattle.peer_slots.proofs.queues.Queues.hear_parts.Given as goal

abbrev pub invariant-loop-part : goal.invariant-loop-part
invariant-loop-part g l =
    let old = queues_of l.fn.self in
    IsHearing old.slots old.room
    (λ known heard. rolls_parts old.room (map part_from l.fn.parts) (window_at old.queues known heard l.fn.mirror))
    (λ known heard. tells_parts old.room (map part_from l.fn.parts) (window_at old.queues known heard l.fn.mirror)
    (record { taken = 0; late = 0; repaired = 0; gap = false; far = false; full = false; differs = l.fn.differs }))
    l.left (queues_of l.self) l.mirror l.told

abbrev pub decreases-loop-part : goal.decreases-loop-part
decreases-loop-part g l = length l.left
