use Rattle.std.proofs.Common.{◌≡◌, ◌≤◌, ◌<◌, ◌*◌, ℕ}
use Rattle.std.specs.List.{range_with_len, flat_map}
use Rattle.peer_packet.specs.Filling.{behind_cursor, weight}
use Rattle.peer_sending.specs.Supply.{IsLegal, supply_of, due_at}
use Rattle.peer_sending.proofs.supply.Supply.weigh.Given as goal

abbrev pub invariant-loop-origin : goal.invariant-loop-origin
invariant-loop-origin l = record {
  all : l.due ≡ weight (flat_map (due_at (supply_of l.self)) (range_with_len 0 l.origin));
  waits : l.waiting ≡ weight (flat_map (λ o. behind_cursor l.fn.cursor (due_at (supply_of l.self) o)) (range_with_len 0 l.origin));
  few_due : l.due ≤ 65536 * l.origin;
  few_wait : l.waiting ≤ 65536 * l.origin;
  legal : (o : ℕ) → o < l.origin → IsLegal ((supply_of l.self).queues o);
}
