-- Tests that tell of layouts of numerals whether they can be.
use Rattle.std.proofs.Common.{◌≡◌, ◌≤◌, Bool, true, not, ◌&&◌, List, [], ◌∷◌, length, lit<, lit≤}
use Rattle.std.specs.List.{list_any, list_all, All, IsDistinct}
use Rattle.std.proofs.lemmas.Bool.{and_parts, not-true}
use Rattle.std.proofs.lemmas.List.Sums.{AllPass-from_list_all}
use Rattle.std.proofs.lemmas.List.Elements.{All-weaker}
use Rattle.match_setup.specs.Ground.{IsGrid, open_grid, is_open}
use Rattle.match_setup.specs.Setup.{Layout, IsLayout, Cell, same_cell, cells_in_use}
use Rattle.match_setup.specs.Worked.{yard, lane}
use Rattle.match_setup.proofs.Cells.{each_fails}
use Rattle.match_setup.proofs.Walls.{IsGrid-open_grid, IsGrid-with_wall}

-- no two elements are the same
abbrev pub are_distinct : {X : Type 0} → (X → X → Bool) → List X → Bool
are_distinct same [] = true
are_distinct same (x ∷ xs) = not (list_any (same x) xs) && are_distinct same xs

pub IsDistinct-from_test : {X : Type 0} (same : X → X → Bool) (xs : List X) → are_distinct same xs ≡ true → IsDistinct same xs
unfolding IsDistinct
IsDistinct-from_test same [] distinct = tt
IsDistinct-from_test same (x ∷ xs) distinct = (each_fails (same x) xs (not-true _ (and_parts _ _ distinct).0), IsDistinct-from_test same xs (and_parts _ _ distinct).1)

-- a fact of each element that a test tells
pub All-from_test : {X : Type 0} (test : X → Bool) (P : X → Type 0) (xs : List X) → ((x : X) → test x ≡ true → P x) → list_all test xs ≡ true → All P xs
All-from_test test P xs tells passes = All-weaker (λ x. test x ≡ true) P tells xs (AllPass-from_list_all test xs passes)

-- the grounds of the worked worlds
pub IsGrid-yard : IsGrid yard
IsGrid-yard = IsGrid-with_wall (open_grid 12 4) 6 2 (IsGrid-open_grid 12 4 (lit≤ tt) (lit≤ tt) (lit≤ tt) (lit≤ tt)) (lit< tt) (lit< tt)

pub IsGrid-lane : IsGrid lane
IsGrid-lane = IsGrid-open_grid 64 1 (lit≤ tt) (lit≤ tt) (lit≤ tt) (lit≤ tt)

-- a layout whose parts are told by tests
pub IsLayout-from_tests : (layout : Layout) → IsGrid layout.grid → 1 ≤ length layout.players
    → length layout.players ≤ 32 → length layout.pickups ≤ 32
    → list_all (λ (c : Cell). is_open layout.grid c.x c.y) (cells_in_use layout) ≡ true
    → are_distinct same_cell (cells_in_use layout) ≡ true → IsLayout layout
IsLayout-from_tests layout grid some few few_pickups free distinct =
    record {
      grid = grid;
      players = (some, few);
      pickups = few_pickups;
      free = free;
      apart = IsDistinct-from_test same_cell (cells_in_use layout) distinct;
    }
