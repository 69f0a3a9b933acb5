use Rattle.pending_list.proofs.Cut.{none-joined, none-cut}
use Rattle.pending_list.proofs.sized.new_buckets.Goals as goal

pub returns-clause-items : goal.returns-clause-items
returns-clause-items c = none-joined (λ b. b.items) c.loop-made.buckets.items c.loop-made.invariant.0

pub returns-clause-cut : goal.returns-clause-cut
returns-clause-cut c = none-cut (λ b. b.items) c.loop-made.buckets.items c.loop-made.invariant.0
