use Rattle.std.proofs.Common.{◌≡◌, length, map, take}
use Rattle.match_score.proofs.rows.scores.Given as goal

abbrev pub invariant-loop-player : goal.invariant-loop-player
invariant-loop-player l = record {
  count : length l.scores.items ≡ l.player;
  items : l.scores.items ≡ map (λ p. p.score) (take l.player l.world.players);
}
