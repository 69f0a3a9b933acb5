-- The ordered part: commands executed tick by tick, in key order.
use Rattle.std.specs.Prelude.{ℕ, zero, suc, ◌+◌, ◌-◌, ◌==◌, List, [], ◌∷◌, ◌++◌, map, filter}
use Rattle.game_trait.specs.declared.command.Command.{Command}
use Rattle.game_trait.specs.declared.command.Item.{Item}
use Rattle.game_trait.specs.declared.command.Item.TheVariants.{Cmd, Beat}
use Rattle.game_trait.specs.Game.{Rules}
use Rattle.game_trait.specs.Keys.{in_key_order}
use Rattle.game_trait.specs.Run.{world_of}

-- the commands of one tick, in key order
abbrev pub due_at : List Command → ℕ → List Command
due_at accepted t = in_key_order (filter (λ x. x.time == t) accepted)

-- one whole tick: its commands in key order, and one beat
abbrev pub tick_of : List Command → ℕ → List Item
tick_of accepted t = map Cmd (due_at accepted t) ++ Beat ∷ []

-- so many whole ticks, from tick t on
unfoldable pub ticks : List Command → ℕ → ℕ → List Item
ticks accepted t zero = []
ticks accepted t (suc n) = tick_of accepted t ++ ticks accepted (t + 1) n

-- the ordered part of the commands, from tick i up to tick j
abbrev pub ordered : List Command → ℕ → ℕ → List Item
ordered accepted i j = ticks accepted i (j - i)

-- the time-ordered execution of the commands over a match of so many ticks
abbrev pub time_ordered : {W : Type 0} → Rules W → W → List Command → ℕ → W
time_ordered rules opening accepted length = world_of rules opening (ordered accepted 0 length)
