use Rattle.std.proofs.Common.{◌≡◌, ◌++◌, map, take, drop}
use Rattle.peer_slots.specs.Links.{told_mark}
use Rattle.peer_slots.proofs.links.tell_each.Given as goal

abbrev pub invariant-loop-other : goal.invariant-loop-other
invariant-loop-other l = l.others ≡ map (told_mark l.mark) (take l.other-index l.fn.others) ++ drop l.other-index l.fn.others
