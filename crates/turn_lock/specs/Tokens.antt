-- The tokens with which the seats of a lock step on its table.
use Rattle.std.specs.Prelude.{◌≡◌, []}
use Rattle.atomic_table.specs.Seated.{TableId}
use Rattle.atomic_table.specs.declared.shared.Seat.{Seat}
use Rattle.turn_lock.specs.declared.view.Stage.{Stage}
use Rattle.turn_lock.specs.declared.view.View.{View}
use Rattle.turn_lock.specs.Views.{IsSeat}

module _ {S V : Type 0} where
  -- the token is of the table, which is a lock's, with two words and one slot
  abbrev pub IsTokenOf : TableId → Seat S V → Type 0
  IsTokenOf table token = (table.words ≡ 2) × (table.slots ≡ 1) × (token.table_id ≡ table)

  -- it is the same token of the same table
  abbrev pub IsSameToken : Seat S V → Seat S V → Type 0
  IsSameToken before after = (after.table_id ≡ before.table_id) × (after.id ≡ before.id)

-- the token of a seat at this stage, which has nothing in its hand
abbrev pub IsTokenAt : {S H C R : Type 0} → Stage → Seat S (View H C R) → Type 0
IsTokenAt stage token =
    IsSeat stage token.me.0.calls token.me.0.grows token.me.0 × (token.me.1 ≡ [])
