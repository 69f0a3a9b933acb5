-- Watchers that are told notes one after another, with others to come.
use Rattle.std.specs.Prelude.{◌≡◌, ℕ, List, [], ◌∷◌, ◌++◌}
use Rattle.game_trait.specs.declared.event.Note.{Note}
use Rattle.watch_board.specs.Behaviour.{Behaviour}
use Rattle.watch_board.specs.Board.{still_there, leaving_lines}

-- the watchers that are still there after notes
unfoldable pub after_notes : List Note → List Behaviour → List Behaviour
after_notes [] watchers = watchers
after_notes (note ∷ notes) watchers = after_notes notes (still_there note watchers)

-- the lines of those that left at one of the notes, in order
unfoldable pub left_lines : List Note → List Behaviour → List ℕ
left_lines [] watchers = []
left_lines (note ∷ notes) watchers =
    leaving_lines note watchers ++ left_lines notes (still_there note watchers)

-- watchers were told these notes, and what they had to say then was appended
pub record AreTold (notes : List Note) (old new : List Behaviour)
    (before after : List ℕ) : Type 0 where
  pub stand : new ≡ after_notes notes old
  pub lines : after ≡ before ++ left_lines notes old
