-- What a watcher does, whatever it is made of.
use Rattle.std.specs.Prelude.{ℕ, Bool, true, false, List, [], ◌∷◌}
use Rattle.game_trait.specs.declared.event.Note.{Note}
use Rattle.watch_board.specs.declared.watcher.Stay.{Stay}
use Rattle.watch_board.specs.declared.watcher.Stay.TheVariants.{Stay as Stays, Leave}

-- what a watcher answers to a note that follows earlier ones, and its line after notes
pub record Behaviour : Type 0 where
  pub answer : List Note → Note → Stay
  pub line : List Note → List ℕ

-- an answer says that the watcher leaves
abbrev pub is_leave : Stay → Bool
is_leave Stays = false
is_leave Leave = true

-- a watcher leaves at its next note
abbrev pub leaves : Note → Behaviour → Bool
leaves note watcher = is_leave (watcher.answer [] note)

-- a watcher once it has taken a note
abbrev pub told : Note → Behaviour → Behaviour
told note watcher = record {
  answer = λ earlier. watcher.answer (note ∷ earlier);
  line = λ earlier. watcher.line (note ∷ earlier);
}
