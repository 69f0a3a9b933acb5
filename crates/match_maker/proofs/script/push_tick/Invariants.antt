use Rattle.std.proofs.Common.{◌≡◌, ◌++◌}
use Rattle.match_maker.specs.Below.{joined_below}
use Rattle.match_maker.specs.Generator.{mirror_lines}
use Rattle.match_maker.proofs.script.push_tick.Given as goal

abbrev pub invariant-loop-mirror : goal.invariant-loop-mirror
invariant-loop-mirror l = l.script ≡ l.fn.script ++ joined_below (mirror_lines l.lags l.tick) l.mirror
