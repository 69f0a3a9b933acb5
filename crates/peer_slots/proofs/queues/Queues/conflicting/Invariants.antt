use Rattle.std.proofs.Common.{◌≡◌, ℕ, map, length}
use Rattle.peer_calls.specs.Wire.{part_from}
use Rattle.peer_slots.specs.Queues.{queues_of, ArePartsFrom, first_conflict}
use Rattle.peer_slots.proofs.queues.Queues.conflicting.Given as goal

abbrev pub invariant-loop-part : goal.invariant-loop-part
invariant-loop-part l =
    (first_conflict (map part_from l.left) (queues_of l.self).queues ≡ first_conflict (map part_from l.fn.parts) (queues_of l.self).queues)
    × ((least : ℕ) × ArePartsFrom (queues_of l.self).slots least l.left)

abbrev pub decreases-loop-part : goal.decreases-loop-part
decreases-loop-part l = length l.left
