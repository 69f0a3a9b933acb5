use Rattle.std.proofs.Common.{◌≡◌, ◌≤◌, take}
use Rattle.game_trait.specs.Count.{times}
use Rattle.peer_model.specs.Marks.{if_differs}
use Rattle.peer_slots.proofs.links.count_differing.Given as goal

abbrev pub invariant-loop-other : goal.invariant-loop-other
invariant-loop-other l = record {
  count : l.count ≡ times (λ other. if_differs l.mark other.mark) (take l.other-index l.others);
  few : l.count ≤ l.other-index;
}
