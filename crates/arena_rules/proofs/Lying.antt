-- The pickups of a world stay so: they never move.
use Rattle.std.proofs.Common.{◌≡◌, true, false, if◌then◌else◌, List, [], ◌∷◌, map, length, refl, arith}
use Rattle.std.proofs.lemmas.List.{length-map}
use Rattle.std.proofs.lemmas.List.Elements.{All-map, All-weaker}
use Rattle.match_setup.specs.Ground.{Grid}
use Rattle.match_setup.specs.Setup.{Cell, pickup_cell}
use Rattle.arena_rules.specs.Pickup.{emptied, lies_ready, taken, waited}
use Rattle.arena_rules.specs.World.{IsPickup, ArePickups}
use Rattle.arena_rules.specs.declared.pickup.Pickup.{Pickup}

-- a change of pickups that moves none
pub record Lies (grid : Grid) (change : Pickup → Pickup) : Type 0 where
  pub possible : (pickup : Pickup) → IsPickup grid pickup → IsPickup grid (change pickup)
  pub stays : (pickup : Pickup) → (change pickup).place ≡ pickup.place

cells-map : (grid : Grid) (change : Pickup → Pickup) (pickups : List Pickup) → Lies grid change → map (λ p. pickup_cell p.place) (map change pickups) ≡ map (λ p. pickup_cell p.place) pickups
cells-map grid change [] lies = refl
cells-map grid change (pickup ∷ pickups) lies = rw (lies.stays pickup, cells-map grid change pickups lies) refl

ArePickups-map : (grid : Grid) (change : Pickup → Pickup) (pickups : List Pickup) → Lies grid change → ArePickups grid pickups → ArePickups grid (map change pickups)
ArePickups-map grid change pickups lies sound = record {
  count = let l : length (map change pickups) ≡ length pickups = length-map pickups change in omega (arith, l, sound.count);
  each = All-map (IsPickup grid) change pickups (All-weaker (IsPickup grid) (λ p. IsPickup grid (change p)) lies.possible pickups sound.each);
  apart = rw (cells-map grid change pickups lies) sound.apart;
}

Lies-waited : (grid : Grid) → Lies grid waited
Lies-waited grid = record { possible = λ pickup possible. record { free = possible.free; wait = omega (arith, possible.wait) }; stays = λ pickup. refl }

Lies-emptied : (grid : Grid) (cell : Cell) → Lies grid (emptied cell)
Lies-emptied grid cell = record {
  possible = λ pickup possible. elim (lies_ready cell pickup) as
      (λ v. IsPickup grid (if v then record pickup { wait = 20 } else pickup))
      [ true ↦ record { free = possible.free; wait = omega arith } | false ↦ possible ];
  stays = λ pickup. elim (lies_ready cell pickup) as (λ v. (if v then record pickup { wait = 20 } else pickup).place ≡ pickup.place) [ true ↦ refl | false ↦ refl ];
}

pub ArePickups-waited : (grid : Grid) (pickups : List Pickup) → ArePickups grid pickups → ArePickups grid (map waited pickups)
ArePickups-waited grid pickups = ArePickups-map grid waited pickups (Lies-waited grid)

pub ArePickups-taken : (grid : Grid) (pickups : List Pickup) (cell : Cell) → ArePickups grid pickups → ArePickups grid (taken pickups cell)
ArePickups-taken grid pickups cell = ArePickups-map grid (emptied cell) pickups (Lies-emptied grid cell)
