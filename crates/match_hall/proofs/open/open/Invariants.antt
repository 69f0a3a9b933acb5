use Rattle.std.proofs.Common.{◌≡◌, ◌-◌, ◌++◌}
use Rattle.match_hall.specs.Script.{opening_from, opening_mirrors}
use Rattle.match_hall.proofs.open.open.Given as goal

abbrev pub invariant-loop-number : goal.invariant-loop-number
invariant-loop-number g l =
    l.mirrors.items ++ opening_from l.opening l.m l.number (l.m.mirrors - l.number) ≡ opening_mirrors l.opening l.m
