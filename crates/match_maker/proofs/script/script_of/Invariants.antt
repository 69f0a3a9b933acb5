use Rattle.std.proofs.Common.{◌≡◌}
use Rattle.match_maker.specs.Below.{joined_below}
use Rattle.match_maker.specs.Generator.{tick_lines}
use Rattle.match_maker.proofs.script.script_of.Given as goal

abbrev pub invariant-loop-tick : goal.invariant-loop-tick
invariant-loop-tick l = l.script ≡ joined_below (tick_lines l.lags) l.tick
