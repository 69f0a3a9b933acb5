use Rattle.sync_model.proofs.Cases.{next-fixed}
use Rattle.sync_model.proofs.laws.staggered.fixed_parts_kept.Goals as goal

pub returns-clause-opening : goal.returns-clause-opening
returns-clause-opening g c = λ s e. (next-fixed s e).opening

pub returns-clause-length : goal.returns-clause-length
returns-clause-length g c = λ s e. (next-fixed s e).length

pub returns-clause-plans : goal.returns-clause-plans
returns-clause-plans g c = λ s e. (next-fixed s e).plans

pub returns-clause-copies : goal.returns-clause-copies
returns-clause-copies g c = λ s e. (next-fixed s e).copies
