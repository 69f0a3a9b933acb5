use Rattle.std.proofs.Common.{◌≡◌, map, take}
use Rattle.match_file.proofs.parts.homes_of.Given as goal

abbrev pub invariant-loop-player : goal.invariant-loop-player
invariant-loop-player l = l.homes.items ≡ map (λ p. p.home) (take l.player-index l.players)
