use Rattle.std.proofs.Common.{◌≡◌, ◌≤◌, take}
use Rattle.game_trait.specs.Run.{beats}
use Rattle.executed_list.proofs.ends.beats_of.Given as goal

abbrev pub invariant-loop-item : goal.invariant-loop-item
invariant-loop-item l = (l.n ≡ beats (take l.item-index l.items)) × (l.n ≤ l.item-index)
