-- The commands at the front of a list that are due at one tick.
use Rattle.std.specs.Prelude.{ℕ, ◌==◌, if◌then◌else◌, List, [], ◌∷◌}
use Rattle.game_trait.specs.declared.command.Command.{Command}

-- the commands from the front on that are due at tick t
unfoldable pub due_front : ℕ → List Command → List Command
due_front t [] = []
due_front t (x ∷ xs) = if x.time == t then x ∷ due_front t xs else []

-- what stands behind them
unfoldable pub due_behind : ℕ → List Command → List Command
due_behind t [] = []
due_behind t (x ∷ xs) = if x.time == t then due_behind t xs else x ∷ xs
