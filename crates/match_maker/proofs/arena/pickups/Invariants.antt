use Rattle.std.proofs.Common.{◌≡◌, length}
use Rattle.match_maker.specs.Below.{each_below}
use Rattle.match_maker.specs.Generator.{pickup_at}
use Rattle.match_maker.proofs.arena.pickups.Given as goal

abbrev pub invariant-loop-i : goal.invariant-loop-i
invariant-loop-i l = record { items : l.pickups.items ≡ each_below pickup_at l.i; long : length l.pickups.items ≡ l.i }
