-- The ground of an arena: a grid of cells, some of them walled. A cell is named by x, which rises
-- from 0 to the east, and y, which rises from 0 to the south.
use Rattle.std.specs.Prelude.{◌≡◌, ℕ, ◌^◌, ◌<◌, ◌≤◌, ℤ, pos, negsuc, Bool, true, false, not, ◌&&◌, ◌==◌, nat_lt, List, length, replicate, slice_index, slice_set, bit_or}
use Rattle.std.specs.Int.{bit_at}
use Rattle.game_trait.specs.declared.limits.TheConstants.{NARROWEST_GRID, WIDEST_GRID, TALLEST_GRID}

-- the sides, and 64 rows of walls, each a number whose bit x says that the cell (x, y) of row y is
-- walled
pub record Grid : Type 0 where
  pub width : ℕ
  pub height : ℕ
  pub walls : List ℕ

-- a grid of these sides without walls
abbrev pub open_grid : ℕ → ℕ → Grid
open_grid width height = record { width = width; height = height; walls = replicate 64 0 }

-- the cell is walled
unfoldable pub is_walled : Grid → ℕ → ℕ → Bool
is_walled grid x y = bit_at (slice_index grid.walls y) x == 1

-- the same as a statement
abbrev pub IsWalled : Grid → ℕ → ℕ → Type 0
IsWalled grid x y = is_walled grid x y ≡ true

-- the grid with a wall in this cell too
unfoldable pub with_wall : Grid → ℕ → ℕ → Grid
with_wall grid x y =
    record grid { walls = slice_set grid.walls y (bit_or (slice_index grid.walls y) (2 ^ x)) }

-- the cell is in the grid and not walled
unfoldable pub is_open : Grid → ℕ → ℕ → Bool
is_open grid x y = nat_lt x grid.width && (nat_lt y grid.height && not (is_walled grid x y))

-- the same of any whole numbers, of which negative ones are no cell's
abbrev pub is_free : Grid → ℤ → ℤ → Bool
is_free grid (pos x) (pos y) = is_open grid x y
is_free grid (pos x) (negsuc y) = false
is_free grid (negsuc x) y = false

-- the sides are in range, and every wall is in the grid
pub record IsGrid (grid : Grid) : Type 0 where
  pub width : (NARROWEST_GRID ≤ grid.width) × (grid.width ≤ WIDEST_GRID)
  pub height : (1 ≤ grid.height) × (grid.height ≤ TALLEST_GRID)
  pub rows : length grid.walls ≡ 64
  pub walls : (x y : ℕ) → is_walled grid x y ≡ true → (x < grid.width) × (y < grid.height)
