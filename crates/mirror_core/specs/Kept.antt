-- What a mirror holds beside the parts of its state, and what is always true of it.
use Rattle.std.specs.Prelude.{◌≡◌, ℕ, ◌+◌, ◌-◌, ◌*◌, ◌≤◌, ◌^◌, Bool, List, [], ◌∷◌, length, map}
use Rattle.std.specs.List.{AllByRecursion}
use Rattle.game_trait.specs.declared.limits.TheConstants.{MOST_COPIES}
use Rattle.game_trait.specs.Run.{beats}
use Rattle.game_trait.specs.CommandList.{has_command}
use Rattle.sync_model.specs.Schedule.{Schedule}
pub use Rattle.sync_model.specs.Schedule.{delays_of_each, ticks_of_first, copies_of_first}
use Rattle.sync_model.specs.State.{MirrorState}
use Rattle.sync_model.specs.Staggered.{greatest_delay}
use Rattle.sync_model.specs.Consistent.{IsConsistent}
use Rattle.sync_model.specs.History.{repairs}
use Rattle.mirror_core.specs.Epochs.{AreEpochs}

-- for how many more commands the copies have room, and the names; and how much the lists of what
-- was turned away and of events may hold
pub record Room : Type 0 where
  pub copies : ℕ
  pub names : ℕ
  pub turned : ℕ
  pub history : ℕ

-- how many ticks copies with these clocks have still to run, in all
unfoldable pub steps_left : ℕ → List ℕ → ℕ
steps_left ticks [] = 0
steps_left ticks (clock ∷ clocks) = (ticks - clock) + steps_left ticks clocks

-- how many events may still change a mirror
abbrev pub events_left : {W : Type 0} → MirrorState W → ℕ
events_left s =
    ((s.length + greatest_delay s.plans) - s.clock) + steps_left s.length (map beats s.runs)
    + s.spare + s.plan_spare

-- there is room for all that may still come
pub record HasRoomLeft {W : Type 0} (s : MirrorState W) (room : Room) : Type 0 where
  pub to_accept : s.spare ≤ room.copies
  pub to_name : s.spare ≤ room.names
  pub to_turn_away : length s.turned + s.spare ≤ room.turned
  pub to_note : length s.history + events_left s ≤ room.history
  pub short_history : room.history ≤ 2 ^ 22

-- what is always true of a mirror with these plans, this test of a mirror and a number, this number
-- of repairs, these numbers of its copies, and this room
pub record IsKept {W : Type 0} (s : MirrorState W) (plans : List Schedule) (is_taken : ℕ → ℕ → Bool)
    (repaired : ℕ) (numbers : List ℕ) (room : Room) :
    Type 0 where
  pub consistent : IsConsistent s
  pub ticks_each : AllByRecursion (λ plan. plan.length ≡ s.length) plans
  pub names : (from number : ℕ) → is_taken from number ≡ has_command s.accepted from number
  pub repairs_are : repaired ≡ repairs s
  pub few_repairs : repaired ≤ MOST_COPIES * length s.history
  pub epochs : AreEpochs s numbers
  pub room_left : HasRoomLeft s room

-- the core of a mirror: its state, and how many copies, from copy 0 on, are stale: their worlds are
-- still to be made
pub record CoreState (W : Type 0) : Type 0 where
  pub state : MirrorState W
  pub stale : ℕ
