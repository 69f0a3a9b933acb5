use Rattle.std.proofs.Common.{◌≡◌, map, take}
use Rattle.arena_rules.specs.Player.{opening_player}
use Rattle.arena_rules.proofs.players.Players.all_at_home.Given as goal

abbrev pub invariant-loop-home : goal.invariant-loop-home
invariant-loop-home l = l.players ≡ map opening_player (take l.home-index l.homes)
