use Rattle.std.proofs.Common.{◌≡◌, ◌+◌, ◌<◌, ◌≤◌, ℕ, drop, get_or}
use Rattle.game_trait.specs.Count.{times}
use Rattle.match_hall.specs.Script.{arrives_at, restaggers_at}
use Rattle.match_hall.proofs.script.Rooms.of.Given as goal

abbrev pub invariant-loop-line : goal.invariant-loop-line
invariant-loop-line l = record {
  arrivals : (k : ℕ) → k < 8 → get_or l.rooms.arrivals k 0 + times (arrives_at k) (drop l.line-index l.script) ≡ times (arrives_at k) l.script;
  changes : (k : ℕ) → k < 8 → get_or l.rooms.changes k 0 + times (restaggers_at k) (drop l.line-index l.script) ≡ times (restaggers_at k) l.script;
  few_arrivals : (k : ℕ) → k < 8 → get_or l.rooms.arrivals k 0 ≤ l.line-index;
  few_changes : (k : ℕ) → k < 8 → get_or l.rooms.changes k 0 ≤ l.line-index;
}
