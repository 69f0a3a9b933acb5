-- The pickups of the arena: each lies in a cell, ready to be taken or waiting.
use Rattle.std.specs.Prelude.{◌+◌, ◌-◌, min, Bool, ◌==◌, ◌&&◌, if◌then◌else◌, List, map, Option, Some, None, option_map, find}
use Rattle.match_setup.specs.Setup.{Cell, same_cell, pickup_cell}
use Rattle.arena_rules.specs.Player.{alive, with_gain}
use Rattle.match_setup.specs.declared.pickup.Kind.{Kind}
use Rattle.match_setup.specs.declared.pickup.Kind.TheVariants.{Ammo, Heal, Gold}
use Rattle.arena_rules.specs.declared.pickup.Pickup.{Pickup}
use Rattle.match_setup.specs.declared.pickup.PickupSpot.{PickupSpot}
use Rattle.arena_rules.specs.declared.player.Body.{Body}
use Rattle.arena_rules.specs.declared.player.Player.{Player}
use Rattle.arena_rules.specs.declared.limits.TheConstants.{MOST_HEALTH, MOST_AMMO, AMMO_OF_A_PICKUP, BEATS_TAKEN}

-- a pickup as the match begins: ready
abbrev pub opening_pickup : PickupSpot → Pickup
opening_pickup place = record { place = place; wait = 0 }

-- the pickup lies in this cell, and doesn't wait
abbrev pub lies_ready : Cell → Pickup → Bool
lies_ready cell pickup = same_cell cell (pickup_cell pickup.place) && (pickup.wait == 0)

-- the kind of the pickup that lies ready in this cell
abbrev pub ready_kind : List Pickup → Cell → Option Kind
ready_kind pickups cell = option_map (λ p. p.place.kind) (find (lies_ready cell) pickups)

-- the pickups after what lies ready in this cell is taken: it waits again
abbrev pub emptied : Cell → Pickup → Pickup
emptied cell pickup = if lies_ready cell pickup then record pickup { wait = BEATS_TAKEN } else pickup

-- each of them so
abbrev pub taken : List Pickup → Cell → List Pickup
taken pickups cell = map (emptied cell) pickups

-- a player of this body who takes a pickup of this kind, if there is one
abbrev pub given : Player → Body → Option Kind → Player
given player body None = alive player body
given player body (Some Ammo) = alive player (record body { ammo = min MOST_AMMO (body.ammo + AMMO_OF_A_PICKUP) })
given player body (Some Heal) = alive player (record body { health = min MOST_HEALTH (body.health + 1) })
given player body (Some Gold) = alive (with_gain player) body

-- a pickup doesn't wait
abbrev pub is_ready : Pickup → Bool
is_ready pickup = pickup.wait == 0

-- a pickup after a beat: where its wait is above 0, it falls by one
abbrev pub waited : Pickup → Pickup
waited pickup = record pickup { wait = pickup.wait - 1 }
