use Rattle.std.proofs.Common.{◌≡◌, ◌++◌, drop, map}
use Rattle.game_trait.specs.Later.{later}
use Rattle.rolling_mirror.specs.Snapshot.{due_from}
use Rattle.rolling_mirror.proofs.joining.due_from.Given as goal

abbrev pub invariant-loop-x : goal.invariant-loop-x
invariant-loop-x l =
    l.due.items ++ map (later l.base) (due_from l.from (drop l.x-index l.commands))
    ≡ map (later l.base) (due_from l.from l.commands)
