use Rattle.std.proofs.Common.{◌≡◌, ◌+◌, ◌≤◌, drop}
use Rattle.game_trait.specs.Count.{times}
use Rattle.match_hall.specs.Script.{arrives_at}
use Rattle.match_hall.proofs.script.arrivals_at.Given as goal

abbrev pub invariant-loop-line : goal.invariant-loop-line
invariant-loop-line l = record {
  counted : l.arrivals + times (arrives_at l.number) (drop l.line-index l.script) ≡ times (arrives_at l.number) l.script;
  few : l.arrivals ≤ l.line-index;
}
