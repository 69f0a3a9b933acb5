use Rattle.std.proofs.Common.{◌≡◌}
use Rattle.match_maker.specs.Below.{each_below}
use Rattle.match_maker.specs.Generator.{name_at}
use Rattle.match_maker.proofs.arena.roster.Given as goal

abbrev pub invariant-loop-i : goal.invariant-loop-i
invariant-loop-i l = l.roster ≡ each_below name_at l.i
