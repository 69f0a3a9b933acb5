use Rattle.std.proofs.Common.{◌≡◌}
use Rattle.lock_bench.proofs.add_all.Given as goal

abbrev pub invariant-adding : goal.invariant-adding
invariant-adding g l = l.seat.seat.table_id ≡ l.initial.seat.seat.table_id

abbrev pub decreases-adding : goal.decreases-adding
decreases-adding g l = l.seat.calls
