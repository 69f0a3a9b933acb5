use Rattle.std.proofs.Common.{◌≡◌, ◌+◌, ◌≤◌, drop}
use Rattle.game_trait.specs.Count.{times}
use Rattle.match_hall.specs.Script.{restaggers_at}
use Rattle.match_hall.proofs.script.changes_at.Given as goal

abbrev pub invariant-loop-line : goal.invariant-loop-line
invariant-loop-line l = record {
  counted : l.changes + times (restaggers_at l.number) (drop l.line-index l.script) ≡ times (restaggers_at l.number) l.script;
  few : l.changes ≤ l.line-index;
}
