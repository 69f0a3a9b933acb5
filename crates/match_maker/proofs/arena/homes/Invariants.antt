use Rattle.std.proofs.Common.{◌≡◌, length}
use Rattle.match_maker.specs.Below.{each_below}
use Rattle.match_maker.specs.Generator.{home_at}
use Rattle.match_maker.proofs.arena.homes.Given as goal

abbrev pub invariant-loop-i : goal.invariant-loop-i
invariant-loop-i l = record { items : l.homes.items ≡ each_below home_at l.i; long : length l.homes.items ≡ l.i }
