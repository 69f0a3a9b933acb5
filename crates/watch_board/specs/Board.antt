-- Which lines arise where notes go to watchers.
use Rattle.std.specs.Prelude.{◌≡◌, ℕ, Bool, true, not, List, [], ◌∷◌, ◌++◌, map, flat_map, length}
use Rattle.std.specs.List.{filter}
use Rattle.game_trait.specs.declared.event.Note.{Note}
use Rattle.tss_io.specs.Lines.{as_line}
use Rattle.watch_board.specs.Behaviour.{Behaviour, leaves, told}

-- the watchers that are still there after a note: those that didn't leave, once they have taken it
unfoldable pub still_there : Note → List Behaviour → List Behaviour
still_there note watchers = map (told note) (filter (λ w. not (leaves note w)) watchers)

-- the lines of those that leave at a note
unfoldable pub leaving_lines : Note → List Behaviour → List ℕ
leaving_lines note watchers =
    flat_map (λ w. as_line (w.line (note ∷ []))) (filter (leaves note) watchers)

-- the lines of those that are left at the end
unfoldable pub last_lines : List Behaviour → List ℕ
last_lines watchers = flat_map (λ w. as_line (w.line [])) watchers

-- the lines that arise where each note goes to each watcher that is still there, both in their
-- order
unfoldable pub board : List Behaviour → List Note → List ℕ
board watchers [] = last_lines watchers
board watchers (note ∷ notes) =
    leaving_lines note watchers ++ board (still_there note watchers) notes

-- the watcher in this place is told a note: its answer, and the watchers then
abbrev pub TellsAt : Note → ℕ → List Behaviour → List Behaviour → Bool → Type 0
TellsAt note place old new answer =
    (front behind : List Behaviour) (one : Behaviour) → old ≡ front ++ one ∷ behind
    → length front ≡ place
    → (answer ≡ leaves note one) × (new ≡ front ++ told note one ∷ behind)

-- the line of the watcher in this place was appended
abbrev pub HasLineOf : ℕ → List Behaviour → List ℕ → List ℕ → Type 0
HasLineOf place old before after =
    (front behind : List Behaviour) (one : Behaviour) → old ≡ front ++ one ∷ behind
    → length front ≡ place
    → after ≡ before ++ as_line (one.line [])

-- the watchers once the one in this place is let go
abbrev pub IsWithout : ℕ → List Behaviour → List Behaviour → Type 0
IsWithout place old new =
    (front behind : List Behaviour) (one : Behaviour) → old ≡ front ++ one ∷ behind
    → length front ≡ place → new ≡ front ++ behind

-- a note has gone to the watchers in front of this place, and to those of them that left
pub record IsOnWay (note : Note) (old new : List Behaviour) (place : ℕ)
    (before after : List ℕ) : Type 0 where
  pub front : List Behaviour
  pub behind : List Behaviour
  pub stood : old ≡ front ++ behind
  pub stand : new ≡ still_there note front ++ behind
  pub placed : length (still_there note front) ≡ place
  pub lines : after ≡ before ++ leaving_lines note front

-- what stands where memory ran out at the line of a watcher that left: those in front of it have
-- taken the note, those behind it haven't, it is gone, and the lines of those in front that left
-- were appended
pub record IsCutShort (note : Note) (old new : List Behaviour)
    (before after : List ℕ) : Type 0 where
  pub front : List Behaviour
  pub gone : Behaviour
  pub behind : List Behaviour
  pub stood : old ≡ front ++ gone ∷ behind
  pub left : leaves note gone ≡ true
  pub stand : new ≡ still_there note front ++ behind
  pub lines : after ≡ before ++ leaving_lines note front

-- what was appended where memory ran out at one of the last lines: the lines of those in front
pub record IsClosedShort (old : List Behaviour) (before after : List ℕ) : Type 0 where
  pub front : List Behaviour
  pub gone : Behaviour
  pub behind : List Behaviour
  pub stood : old ≡ front ++ gone ∷ behind
  pub lines : after ≡ before ++ last_lines front
