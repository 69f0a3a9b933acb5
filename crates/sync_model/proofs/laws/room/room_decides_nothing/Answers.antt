use Rattle.std.proofs.Common.{refl}
use Rattle.sync_model.specs.History.{with_room}
use Rattle.sync_model.proofs.Room.{said-room, next-room, after-same}
use Rattle.sync_model.proofs.laws.room.room_decides_nothing.Goals as goal

pub returns-clause-answer : goal.returns-clause-answer
returns-clause-answer g c = λ s spare plan_spare e. said-room s spare plan_spare e

pub returns-clause-state : goal.returns-clause-state
returns-clause-state g c = λ s spare plan_spare e. next-room s spare plan_spare e

pub returns-clause-along : goal.returns-clause-along
returns-clause-along g c = λ s spare plan_spare es. after-same es (with_room s spare plan_spare) s refl
