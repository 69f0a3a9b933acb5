-- A list of commands with different names, of which each is found at once.
use Rattle.std.specs.Prelude.{◌≡◌, ℕ, ◌≤◌, Bool, ◌==◌, ◌&&◌, Option, List, map, find}
use Rattle.std.specs.List.{list_any}
use Rattle.game_trait.specs.declared.command.Command.{Command}
use Rattle.game_trait.specs.Keys.{is_named, NamesDiffer}

-- the commands in the order in which they were appended, and how many there is room for
pub record CommandsInRoom : Type 0 where
  pub items : List Command
  pub room : ℕ

-- the command of this mirror and number, if there is one
abbrev pub command_named : List Command → ℕ → ℕ → Option Command
command_named commands from number = find (is_named from number) commands

-- one of the commands has this mirror and number
abbrev pub has_command : List Command → ℕ → ℕ → Bool
has_command commands from number = list_any (is_named from number) commands

-- two pairs of a mirror and a number are one and the same
abbrev pub same_pair : ℕ × ℕ → ℕ × ℕ → Bool
same_pair a b = (a.0 == b.0) && (a.1 == b.1)

-- what a command is found by
abbrev pub name_of : Command → ℕ × ℕ
name_of x = (x.from, x.number)

-- what is always true of a list with its commands' names and of the room that both have
pub record IsCommandList (named : List (ℕ × ℕ)) (commands : List Command)
    (room capacity names_room : ℕ) : Type 0 where
  pub named_each : named ≡ map name_of commands
  pub names : NamesDiffer commands
  pub in_list : room ≤ capacity
  pub in_names : room ≤ names_room
