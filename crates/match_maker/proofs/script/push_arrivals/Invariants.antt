use Rattle.std.proofs.Common.{◌≡◌, ◌++◌}
use Rattle.match_maker.specs.Below.{joined_below}
use Rattle.match_maker.specs.Generator.{arrival_lines}
use Rattle.match_maker.proofs.script.push_arrivals.Given as goal

abbrev pub invariant-loop-place : goal.invariant-loop-place
invariant-loop-place l = l.script ≡ l.fn.script ++ joined_below (arrival_lines l.lags l.tick l.mirror) l.place
