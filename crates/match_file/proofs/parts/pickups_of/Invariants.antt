use Rattle.std.proofs.Common.{◌≡◌, take}
use Rattle.match_file.proofs.parts.pickups_of.Given as goal

abbrev pub invariant-loop-pickup : goal.invariant-loop-pickup
invariant-loop-pickup l = l.kept.items ≡ take l.pickup-index l.pickups
