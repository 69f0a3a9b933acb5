use Rattle.std.proofs.Common.{◌≡◌, map, take}
use Rattle.match_file.proofs.parts.roster_of.Given as goal

abbrev pub invariant-loop-player : goal.invariant-loop-player
invariant-loop-player l = l.roster ≡ map (λ p. p.name) (take l.player-index l.players)
