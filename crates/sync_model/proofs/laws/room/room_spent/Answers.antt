use Rattle.sync_model.proofs.Room.{spare-next, plan_spare-next}
use Rattle.sync_model.proofs.laws.room.room_spent.Goals as goal

pub returns-clause-arrivals : goal.returns-clause-arrivals
returns-clause-arrivals g c = λ s e. spare-next s e

pub returns-clause-plans : goal.returns-clause-plans
returns-clause-plans g c = λ s e. plan_spare-next s e
