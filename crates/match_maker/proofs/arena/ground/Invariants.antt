use Rattle.std.proofs.Common.{◌≡◌}
use Rattle.match_maker.specs.Generator.{walled_grid}
use Rattle.match_maker.proofs.arena.ground.Given as goal

abbrev pub invariant-loop-i : goal.invariant-loop-i
invariant-loop-i l = record { ground : l.ground ≡ walled_grid l.i; width : l.ground.width ≡ 32; height : l.ground.height ≡ 32 }
