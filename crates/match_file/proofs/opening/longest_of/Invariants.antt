use Rattle.std.proofs.Common.{◌≡◌, drop}
use Rattle.sync_model.specs.Lists.{last_of}
use Rattle.match_file.proofs.opening.longest_of.Given as goal

abbrev pub invariant-loop-delay : goal.invariant-loop-delay
invariant-loop-delay l = last_of l.last (drop l.delay-index l.delay-items) ≡ last_of 0 l.delays
