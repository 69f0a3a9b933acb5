use Rattle.std.proofs.Common.{◌≡◌, ◌+◌, ◌≤◌, drop}
use Rattle.game_trait.specs.Count.{times}
use Rattle.lossy_link.specs.Links.{is_from}
use Rattle.lossy_link.proofs.links.count_from.Given as goal

abbrev pub invariant-loop-x : goal.invariant-loop-x
invariant-loop-x l = record {
  counted : l.many + times (is_from l.from) (drop l.x-index l.commands) ≡ times (is_from l.from) l.commands;
  few : l.many ≤ l.x-index;
}
