use Rattle.std.proofs.Common.{◌-◌}
use Rattle.pending_list.specs.Buckets.{IsStretch}
use Rattle.pending_list.proofs.order.searched_place.Given as goal

abbrev pub invariant-loop-first : goal.invariant-loop-first
invariant-loop-first l = IsStretch l.x l.in_order l.first l.last

abbrev pub decreases-loop-first : goal.decreases-loop-first
decreases-loop-first l = l.last - l.first
