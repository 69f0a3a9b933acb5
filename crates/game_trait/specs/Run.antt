-- Runs: the items that a copy has executed, in order.
use Rattle.std.specs.Prelude.{◌≡◌, ℕ, ◌+◌, Bool, true, false, ◌==◌, ◌&&◌, List, [], ◌∷◌, ◌++◌}
use Rattle.game_trait.specs.declared.command.Act.{Act}
use Rattle.game_trait.specs.declared.command.Act.TheVariants.{Go, Left, Right, Shoot, Dash}
use Rattle.game_trait.specs.declared.command.Command.{Command}
use Rattle.game_trait.specs.declared.command.Item.{Item}
use Rattle.game_trait.specs.declared.command.Item.TheVariants.{Cmd, Beat}
use Rattle.game_trait.specs.Game.{Rules}

-- how many ticks a run has ended
unfoldable pub beats : List Item → ℕ
beats [] = 0
beats (Cmd x ∷ rest) = beats rest
beats (Beat ∷ rest) = beats rest + 1

-- the commands of a run, in its order
unfoldable pub commands_of : List Item → List Command
commands_of [] = []
commands_of (Cmd x ∷ rest) = x ∷ commands_of rest
commands_of (Beat ∷ rest) = commands_of rest

-- one list is the front of another
abbrev pub IsPrefix : {X : Type 0} → List X → List X → Type 0
IsPrefix {X} front whole = (rest : List X) × (whole ≡ front ++ rest)

-- the world after a run, from an opening
unfoldable pub world_of : {W : Type 0} → Rules W → W → List Item → W
world_of rules opening [] = opening
world_of rules opening (Cmd x ∷ rest) = world_of rules (rules.apply opening x) rest
world_of rules opening (Beat ∷ rest) = world_of rules (rules.beat opening) rest

-- the place of an act in the list of acts
abbrev pub act_place : Act → ℕ
act_place Go = 0
act_place Left = 1
act_place Right = 2
act_place Shoot = 3
act_place Dash = 4

-- two commands are one and the same
unfoldable pub same_command : Command → Command → Bool
same_command x y =
    (x.time == y.time)
    && ((x.from == y.from)
    && ((x.number == y.number) && ((x.player == y.player) && (act_place x.act == act_place y.act))))

-- two items are one and the same
unfoldable pub same_item : Item → Item → Bool
same_item (Cmd x) (Cmd y) = same_command x y
same_item (Cmd x) Beat = false
same_item Beat (Cmd y) = false
same_item Beat Beat = true
