use Rattle.std.proofs.Common.{◌≡◌, map, take}
use Rattle.game_trait.specs.CommandList.{name_of}
use Rattle.rolling_mirror.proofs.names.rename.Given as goal

abbrev pub invariant-loop-x : goal.invariant-loop-x
invariant-loop-x l =
    l.names
    ≡ record l.fn.names { items = map name_of (take l.x-index l.commands); room = l.fn.names.first_room }
