use Rattle.std.proofs.Common.{◌≡◌, ◌-◌, length}
use Rattle.std.specs.List.{range_with_len, flat_map}
use Rattle.peer_packet.specs.Packet.{part_bytes}
use Rattle.peer_packet.specs.Putting.{Puts}
use Rattle.peer_packet.specs.Filling.{behind_cursor, weight}
use Rattle.peer_sending.specs.Filling.{GoesOn}
use Rattle.peer_sending.specs.Supply.{supply_of, due_at}
use Rattle.peer_sending.proofs.supply.Supply.put.Given as goal

abbrev pub invariant-loop-origin : goal.invariant-loop-origin
invariant-loop-origin l = record {
  bytes : Puts l.fn.out l.out l.at l.behind (flat_map part_bytes (flat_map (λ o. behind_cursor l.fn.cursor (due_at (supply_of l.self) o)) (range_with_len 0 l.origin)));
  goes : GoesOn (length l.fn.out - l.at) (length l.out - l.behind) (flat_map (λ o. behind_cursor l.fn.cursor (due_at (supply_of l.self) o)) (range_with_len 0 l.origin));
  heavy : l.weight ≡ weight (flat_map (λ o. behind_cursor l.fn.cursor (due_at (supply_of l.self) o)) (range_with_len 0 l.origin));
}
