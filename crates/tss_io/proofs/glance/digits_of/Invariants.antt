use Rattle.std.proofs.Common.{◌-◌, length}
use Rattle.tss_io.specs.Glance.{IsFront}
use Rattle.tss_io.proofs.glance.digits_of.Given as goal

abbrev pub invariant-loop-at : goal.invariant-loop-at
invariant-loop-at l = IsFront l.text l.number l.at

abbrev pub decreases-loop-at : goal.decreases-loop-at
decreases-loop-at l = length l.text - l.at
