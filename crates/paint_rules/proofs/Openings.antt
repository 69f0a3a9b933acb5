-- Where players and pickups stand as a match begins.
use Rattle.std.proofs.Common.{◌≡◌, ◌∙◌, ◌<◌, true, List, map, sym}
use Rattle.std.specs.List.{All, list_all}
use Rattle.std.proofs.lemmas.Bool.{and_parts}
use Rattle.std.proofs.lemmas.List.Elements.{All-weaker}
use Rattle.std.proofs.lemmas.List.Folds.{list_all-append, list_all-map}
use Rattle.std.proofs.lemmas.List.Sums.{AllPass-from_list_all}
use Rattle.match_setup.specs.Ground.{Grid, IsGrid, is_open}
use Rattle.match_setup.specs.Setup.{Layout, Cell, spot_cell, pickup_cell, IsLayout}
use Rattle.match_setup.specs.declared.pickup.PickupSpot.{PickupSpot}
use Rattle.paint_rules.specs.World.{Lies}
use Rattle.paint_rules.proofs.Steps.{is_open-near}

-- all that stands somewhere stands in an open cell
opens : (layout : Layout) → IsLayout layout
    → (list_all (λ (c : Cell). is_open layout.grid c.x c.y) (map pickup_cell layout.pickups) ≡ true) ×
    (list_all (λ (c : Cell). is_open layout.grid c.x c.y) (map spot_cell layout.players) ≡ true)
opens layout possible = and_parts _ _ (sym (list_all-append (λ (c : Cell). is_open layout.grid c.x c.y) (map pickup_cell layout.pickups) (map spot_cell layout.players)) ∙ possible.free)

all_open : {X : Type 0} (grid : Grid) (cell : X → Cell) (xs : List X) → list_all (λ (c : Cell). is_open grid c.x c.y) (map cell xs) ≡ true → All (λ x. is_open grid (cell x).x (cell x).y ≡ true) xs
all_open grid cell xs free = AllPass-from_list_all (λ x. is_open grid (cell x).x (cell x).y) xs (sym (list_all-map (λ (c : Cell). is_open grid c.x c.y) cell xs) ∙ free)

-- the homes are in reach
pub homes-near : (layout : Layout) → IsLayout layout → All (λ home. (home.x < 64) × (home.y < 64)) layout.players
homes-near layout possible = All-weaker (λ home. is_open layout.grid home.x home.y ≡ true)
    (λ home. (home.x < 64) × (home.y < 64)) (λ home free. is_open-near layout.grid home.x home.y possible.grid free)
    layout.players (all_open layout.grid spot_cell layout.players (opens layout possible).1)

-- the pickups lie in the grid
pub pickups-lie : (layout : Layout) → IsLayout layout → All (Lies layout.grid) layout.pickups
pickups-lie layout possible = all_open layout.grid pickup_cell layout.pickups (opens layout possible).0

-- they are in reach
pub pickups-near : (grid : Grid) (pickups : List PickupSpot) → IsGrid grid → All (Lies grid) pickups → All (λ pickup. (pickup.x < 64) × (pickup.y < 64)) pickups
pickups-near grid pickups sound lie = All-weaker (Lies grid) (λ pickup. (pickup.x < 64) × (pickup.y < 64)) (λ pickup free. is_open-near grid pickup.x pickup.y sound free) pickups lie
