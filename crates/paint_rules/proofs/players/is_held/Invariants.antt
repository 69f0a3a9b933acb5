use Rattle.std.proofs.Common.{◌≡◌, take}
use Rattle.std.specs.List.{list_any}
use Rattle.match_setup.specs.Setup.{same_cell, spot_cell}
use Rattle.paint_rules.proofs.players.is_held.Given as goal

abbrev pub invariant-loop-player : goal.invariant-loop-player
invariant-loop-player l = l.held ≡ list_any (λ p. same_cell (spot_cell l.spot) (spot_cell p)) (take l.player-index l.players)
