-- Lists of messages: what a feeder sends, the marks, and what an orderly list keeps.
use Rattle.std.specs.Prelude.{ℕ, zero, suc, ◌+◌, ◌<◌, ◌≤◌, List, [], ◌∷◌, ◌++◌, map}
use Rattle.game_trait.specs.declared.command.Command.{Command}
use Rattle.game_trait.specs.Ordered.{due_at}
use Rattle.link_ring.specs.declared.message.Message.{Message}
use Rattle.link_ring.specs.declared.message.Message.TheVariants.{Cmd, Mark}

-- what is sent for one tick: the commands of that time in key order, and the mark above them
abbrev pub tick_messages : List Command → ℕ → List Message
tick_messages plan t = map Cmd (due_at plan t) ++ Mark (t + 1) ∷ []

-- what is sent for the first n ticks
unfoldable pub messages : List Command → ℕ → List Message
messages plan zero = []
messages plan (suc n) = messages plan n ++ tick_messages plan n

-- the commands among messages
unfoldable pub commands_in : List Message → List Command
commands_in [] = []
commands_in (Cmd x ∷ rest) = x ∷ commands_in rest
commands_in (Mark n ∷ rest) = commands_in rest

-- how many marks there are
unfoldable pub marks_in : List Message → ℕ
marks_in [] = 0
marks_in (Cmd x ∷ rest) = marks_in rest
marks_in (Mark n ∷ rest) = marks_in rest + 1

-- the last mark, where mark m came before
unfoldable pub mark_after : ℕ → List Message → ℕ
mark_after m [] = m
mark_after m (Cmd x ∷ rest) = mark_after m rest
mark_after m (Mark n ∷ rest) = mark_after n rest

-- the number of the last mark, 0 where there is none
abbrev pub last_mark : List Message → ℕ
last_mark list = mark_after 0 list

-- after mark m: marks rise up to the length, nothing follows a mark of the length, commands are due
-- below it
unfoldable pub OrderlyAfter : ℕ → ℕ → List Message → Type 0
OrderlyAfter length m [] = Unit {0}
OrderlyAfter length m (Cmd x ∷ rest) = (m < length) × (x.time < length) × OrderlyAfter length m rest
OrderlyAfter length m (Mark n ∷ rest) = (m < n) × (n ≤ length) × OrderlyAfter length n rest

-- the marks rise and are from 1 to the length, nothing follows a mark of the length, each command
-- is due below it
abbrev pub IsOrderly : ℕ → List Message → Type 0
IsOrderly length list = OrderlyAfter length 0 list
