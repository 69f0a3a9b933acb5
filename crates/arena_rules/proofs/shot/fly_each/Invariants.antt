use Rattle.std.proofs.Common.{◌≡◌, ◌≤◌, length, drop, take}
use Rattle.arena_rules.specs.Beat.{flights}
use Rattle.arena_rules.proofs.Flights.{after_kept}
use Rattle.arena_rules.proofs.shot.fly_each.Given as goal

abbrev pub invariant-loop-at : goal.invariant-loop-at
invariant-loop-at l = record {
  front : l.kept ≤ l.at;
  players : length l.players ≡ length l.fn.players;
  count : length l.shots.items ≡ length l.fn.shots.items;
  ahead : drop l.at l.shots.items ≡ drop l.at l.fn.shots.items;
  so_far : flights l.ground l.fn.players l.fn.shots.items ≡ after_kept (take l.kept l.shots.items) (flights l.ground l.players (drop l.at l.fn.shots.items));
}
