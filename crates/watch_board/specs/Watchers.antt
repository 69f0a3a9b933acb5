-- The three watchers that the program has.
use Rattle.std.specs.Prelude.{ℕ, ◌+◌, ◌-◌, ◌^◌, Bool, true, false, nat_lt, if◌then◌else◌, List, [], ◌∷◌, map, codes, decimal, min, Option, Some, None}
use Rattle.game_trait.specs.declared.event.Note.{Note}
use Rattle.game_trait.specs.declared.event.Reply.{Reply}
use Rattle.game_trait.specs.declared.event.Reply.TheVariants.{Tick as ToTick, Arrive as ToArrive, Step as ToStep, Restaggered}
use Rattle.game_trait.specs.declared.event.Arrived.TheVariants.{Taken, Repeat, Late}
use Rattle.game_trait.specs.Count.{times}
use Rattle.tss_io.specs.Lines.{spaced}
use Rattle.sync_model.specs.History.{repaired_in, repairs_in}
use Rattle.watch_board.specs.declared.watcher.Stay.TheVariants.{Stay as Stays, Leave}
use Rattle.watch_board.specs.Behaviour.{Behaviour}

-- a line of a watcher: what it watches, and what it has to say of it
unfoldable pub watch_line : List ℕ → List ℕ → List ℕ
watch_line what value = spaced (codes "watch" ∷ what ∷ value ∷ [])

-- a count stays at its greatest value
abbrev pub counted : ℕ → ℕ
counted n = min n (2 ^ 64 - 1)

-- an answer says that a command was late
abbrev pub says_late : Reply → Bool
says_late (ToTick ticked) = false
says_late (ToArrive (Taken n)) = false
says_late (ToArrive Repeat) = false
says_late (ToArrive (Late bound)) = true
says_late (ToStep stepped) = false
says_late Restaggered = false

-- the line of a count that goes on over the notes: of the copies that they say were repaired
unfoldable pub repairs_line : ℕ → List Note → List ℕ
repairs_line count notes =
    watch_line (codes "repairs") (decimal (counted (count + repairs_in (map (λ n. n.reply) notes))))

-- the line of a count that goes on over the notes: of the commands that they say were late
unfoldable pub late_line : ℕ → List Note → List ℕ
late_line count notes =
    watch_line (codes "late")
    (decimal (counted (count + times says_late (map (λ n. n.reply) notes))))

-- it stays, and counts the copies that were repaired
abbrev pub repair_count : ℕ → Behaviour
repair_count count = record { answer = λ earlier note. Stays; line = repairs_line count }

-- it stays, and counts the commands that were late
abbrev pub late_count : ℕ → Behaviour
late_count count = record { answer = λ earlier note. Stays; line = late_line count }

-- something was repaired
abbrev pub is_repair : Note → Bool
is_repair note = nat_lt 0 (repaired_in note.reply)

-- where something was repaired first, if it wasn't known before
unfoldable pub first_repaired : Option ℕ → List Note → Option ℕ
first_repaired (Some mirror) notes = Some mirror
first_repaired None [] = None
first_repaired None (note ∷ notes) =
    if is_repair note then Some note.mirror else first_repaired None notes

-- the mirror's number, or that there is none
abbrev pub mirror_word : Option ℕ → List ℕ
mirror_word None = codes "none"
mirror_word (Some mirror) = decimal mirror

-- the line that tells where something was repaired first, here or at the notes
unfoldable pub first_line : Option ℕ → List Note → List ℕ
first_line first notes = watch_line (codes "first") (mirror_word (first_repaired first notes))

-- it leaves where something is repaired, and tells where that was first
abbrev pub first_repair : Option ℕ → Behaviour
first_repair first = record {
  answer = λ earlier note. if is_repair note then Leave else Stays;
  line = first_line first;
}
