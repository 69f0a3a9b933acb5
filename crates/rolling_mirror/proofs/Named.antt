-- Names in the front of a list of commands of different names.
use Rattle.std.proofs.Common.{◌≡◌, ◌∙◌, ℕ, ◌<◌, false, List, map, length, get_or, take}
use Rattle.game_trait.specs.declared.command.Command.{Command}
use Rattle.game_trait.specs.Keys.{same_name, NamesDiffer}
use Rattle.game_trait.specs.CommandList.{name_of}
use Rattle.game_trait.specs.NameTree.{has_name}
use Rattle.game_trait.proofs.CommandLists.{has-named, names-at}

-- in a list of commands of different names no name of the first ones is that of a later one
pub fresh-at :
    (xs : List Command) (i : ℕ) (d : Command) → i < length xs → NamesDiffer xs
    → has_name (map name_of (take i xs)) (get_or xs i d).from (get_or xs i d).number ≡ false
unfolding same_name
fresh-at xs i d within differ =
    has-named (take i xs) (get_or xs i d).from (get_or xs i d).number ∙ names-at xs i d within differ
