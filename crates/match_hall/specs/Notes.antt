-- What watchers are told of the mirrors of a match: each event that changed one, with its answer.
use Rattle.std.specs.Prelude.{◌≡◌, ℕ, ◌+◌, if◌then◌else◌, List, [], ◌∷◌, ◌++◌}
use Rattle.game_trait.specs.declared.event.Event.{Event}
use Rattle.game_trait.specs.declared.event.Note.{Note}
use Rattle.game_trait.specs.declared.event.Reply.{Reply}
use Rattle.sync_model.specs.State.{MirrorState}
use Rattle.sync_model.specs.Change.{next, said, is_change}
use Rattle.sync_model.specs.History.{first_state}
use Rattle.watch_board.specs.Behaviour.{Behaviour}
use Rattle.watch_board.specs.Told.{AreTold}

-- the note of an event at the mirror of this number
abbrev pub note_of : {W : Type 0} → ℕ → MirrorState W → Event → Note
note_of number s e = record { mirror = number; event = e; reply = said s e }

-- the notes of events that the mirror takes one after the other
unfoldable pub notes_from : {W : Type 0} → ℕ → MirrorState W → List Event → List Note
notes_from number s [] = []
notes_from number s (e ∷ es) = note_of number s e ∷ notes_from number (next s e) es

-- the notes of a mirror: those of its history
abbrev pub notes_of : {W : Type 0} → ℕ → MirrorState W → List Note
notes_of number s = notes_from number (first_state s) s.history

-- the note of an event and its answer, where the answer tells of a change
abbrev pub notes_where : ℕ → Event → Reply → List Note
notes_where number e r =
    if is_change r then record { mirror = number; event = e; reply = r } ∷ [] else []

-- the notes of those events of which the answers tell of a change
unfoldable pub notes_with : ℕ → List Event → List Reply → List Note
notes_with number [] rs = []
notes_with number (e ∷ es) [] = []
notes_with number (e ∷ es) (r ∷ rs) = notes_where number e r ++ notes_with number es rs

-- the notes of mirrors, mirror after mirror; the first has this number
unfoldable pub notes_of_all : {W : Type 0} → ℕ → List (MirrorState W) → List Note
notes_of_all number [] = []
notes_of_all number (s ∷ ss) = notes_of number s ++ notes_of_all (number + 1) ss

-- while the mirror of this number came from one state to another, watchers were told what changed
-- it, note by note
pub record IsToldOn {W : Type 0} (number : ℕ) (s t : MirrorState W) (old new : List Behaviour)
    (before after : List ℕ) : Type 0 where
  pub notes : List Note
  pub more : notes_of number t ≡ notes_of number s ++ notes
  pub told : AreTold notes old new before after
