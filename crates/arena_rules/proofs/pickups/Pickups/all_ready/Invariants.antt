use Rattle.std.proofs.Common.{◌≡◌, map, take}
use Rattle.arena_rules.specs.Pickup.{opening_pickup}
use Rattle.arena_rules.proofs.pickups.Pickups.all_ready.Given as goal

abbrev pub invariant-loop-place : goal.invariant-loop-place
invariant-loop-place l = l.pickups ≡ map opening_pickup (take l.place-index l.places)
