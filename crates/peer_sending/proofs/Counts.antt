-- How long counts are.
use Rattle.std.proofs.Common.{ℕ, ◌≤◌, true, false, cond, List, [], length, arith}
use Rattle.std.specs.Prelude.{nat_lt}
use Rattle.std.specs.Int.{w32, to_le_bytes}
use Rattle.peer_packet.specs.Packet.{count_bytes}

pub count-most : (n : ℕ) → length (count_bytes n) ≤ 4
count-most n = elim (nat_lt 0 n) as (λ v. length (cond {A = List ℕ} v (to_le_bytes w32 n) []) ≤ 4) [ true ↦ omega arith | false ↦ omega arith ]
