-- What contracts see of a lock and of its seats.
use Rattle.atomic_table.specs.Seated.{TableId}
use Rattle.atomic_table.specs.declared.shared.Seat.{Seat}
use Rattle.turn_lock.specs.declared.law.Plan.{Plan}
use Rattle.turn_lock.specs.declared.lock.Counts.{Ghosts}
use Rattle.turn_lock.specs.declared.lock.LockOver.{LockOver}

-- the name of the lock's table: a seat of that name is the lock's
abbrev pub lock_name : {S V K Q : Type 0} {counts : Ghosts K} → LockOver S V K Q counts → TableId
lock_name lock = lock.table.shared.table_id

-- the name of the table that a seat steps on
abbrev pub seat_name : {S V : Type 0} → Seat S V → TableId
seat_name seat = seat.table_id

-- the object's value when the lock was made
abbrev pub opened_with : {S V Q H : Type 0} {counts : Ghosts (Plan H)} → LockOver S V (Plan H) Q counts → H
opened_with lock = lock.table.shared.key.opening.value
