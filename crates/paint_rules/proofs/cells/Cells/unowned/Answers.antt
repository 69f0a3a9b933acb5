use Rattle.std.proofs.Common.{refl}
use Rattle.paint_rules.specs.Owners.{unowned}
use Rattle.paint_rules.proofs.Counts.{AreCounts-unowned, owners-unowned}
use Rattle.paint_rules.proofs.cells.Cells.unowned.Goals as goal

pub invariant_of-result : goal.invariant_of-result
unfolding unowned
invariant_of-result c = rw c.first_counts.ensures (AreCounts-unowned, owners-unowned)

pub returns : goal.returns
unfolding unowned
returns c = refl
