use Rattle.std.proofs.Common.{◌≡◌, drop}
use Rattle.match_file.specs.Kinds.{rises_from}
use Rattle.match_file.proofs.opening.rises.Given as goal

abbrev pub invariant-loop-delay : goal.invariant-loop-delay
invariant-loop-delay l = rises_from l.last (drop l.delay-index l.more) ≡ rises_from l.initial.last l.more
