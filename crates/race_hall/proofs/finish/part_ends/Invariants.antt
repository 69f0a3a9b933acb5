use Rattle.std.proofs.Common.{◌≡◌, ◌≤◌, ◌++◌, map, length, vec_capacity}
use Rattle.race_hall.specs.Undelivered.{sender_of_end}
use Rattle.race_hall.proofs.finish.part_ends.Given as goal

abbrev pub invariant-loop-end : goal.invariant-loop-end
invariant-loop-end l =
    (goal.iterator-loop-end).can_next l.end-iterator ×
    (goal.iterator-loop-end).is_finite l.end-iterator ×
    record {
      parts : l.fn.ends.items ≡ l.yielded ++ l.end-iterator.rest.items;
      sends : l.sends.items ≡ map (λ e. e.sends) l.yielded;
      rows : l.rows.items ≡ map (λ e. e.receives) l.yielded;
      senders : l.senders.items ≡ map sender_of_end l.yielded;
      room : (length l.fn.ends.items ≤ vec_capacity l.sends) × (length l.fn.ends.items ≤ vec_capacity l.rows) × (length l.fn.ends.items ≤ vec_capacity l.senders);
    }
