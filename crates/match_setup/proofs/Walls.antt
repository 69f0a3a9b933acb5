-- Which cells are walled, and that a grid stays one that the ground can have.
use Rattle.std.proofs.Common.{◌≡◌, ◌↔◌, ◌⊎◌, eq-eqb, ℕ, ◌<◌, ◌≤◌, ◌||◌, ◌&&◌, ◌==◌, ◌^◌, ◌*◌, ◌%◌, false, ℤ, pos, negsuc, refl, sym, ap, ◌∙◌, inl}
use Rattle.std.proofs.Common.{inr, length, slice_index, replicate, bit_or, arith, length-set, get_or-set_other}
use Rattle.std.specs.Int.{bit_at, FitsUnsignedBits}
use Rattle.std.proofs.lemmas.Bool.{cases_lt, cases_eq, eqb-true, ne_eqb, or_cases, and_parts, and_left, and_right, le-ltb, false≢true}
use Rattle.std.proofs.lemmas.Bool.Decides.{nat_tests}
use Rattle.std.proofs.lemmas.Grind.{get_or-set_at}
use Rattle.std.proofs.lemmas.List.{get_or-replicate, get_or_past, length-replicate}
use Rattle.std.proofs.lemmas.Nat.{one_shl}
use Rattle.std.proofs.lemmas.Nat.Bits.{bit_at-zero, bit_at_or, bit_at-lt, bit_at-pow_same, bit_at-pow_other}
use Rattle.match_setup.specs.Ground.{Grid, IsGrid, open_grid, is_walled, IsWalled, with_wall, is_free, is_open}

-- no row of an open grid has a wall
no_wall_in_row : (n y : ℕ) → slice_index (replicate n 0) y ≡ 0
no_wall_in_row n y = elim (cases_lt y n) [
  | inl below ↦ get_or-replicate n y 0 0 below
  | inr past ↦
      get_or_past (replicate n 0) y 0 (let l : length {A = ℕ} (replicate n 0) ≡ n = length-replicate n 0 in
      omega (arith, l))
]

-- no cell of an open grid is walled
pub is_walled-open_grid : (width height x y : ℕ) → is_walled (open_grid width height) x y ≡ false
unfolding is_walled
is_walled-open_grid width height x y = ap (λ row. bit_at row x == 1) (no_wall_in_row 64 y) ∙ ap (λ b. b == 1) (bit_at-zero x)

-- a bit that is set in a number
bit_at-set : (n x a : ℕ) → (bit_at (bit_or n (2 ^ x)) a == 1) ≡ ((bit_at n a == 1) || (a == x))
bit_at-set n x a = elim (cases_eq a x) [
  | inl same ↦ grind (arith, nat_tests, same, bit_at_or n (2 ^ x) a, bit_at-lt n a, bit_at-pow_same x)
  | inr apart ↦ grind (arith, nat_tests, bit_at_or n (2 ^ x) a, bit_at-lt n a, bit_at-pow_other x a apart)
]

-- a wall more walls its own cell, and leaves the others as they were
pub is_walled-with_wall : (grid : Grid) (x y a b : ℕ) → y < length grid.walls → is_walled (with_wall grid x y) a b ≡ (is_walled grid a b || ((a == x) && (b == y)))
unfolding is_walled with_wall
is_walled-with_wall grid x y a b within = elim (cases_eq b y) [
  | inl same ↦ ap (λ row. bit_at row a == 1) (get_or-set_at grid.walls y b _ 0 same within) ∙ bit_at-set _ x a ∙ grind (arith, nat_tests, same)
  | inr apart ↦ ap (λ row. bit_at row a == 1) (get_or-set_other grid.walls y b _ 0 apart) ∙ grind (arith, nat_tests, ne_eqb b y apart)
]

-- an open grid of sides in range is a grid
pub IsGrid-open_grid : (width height : ℕ) → 3 ≤ width → width ≤ 64 → 1 ≤ height → height ≤ 64 → IsGrid (open_grid width height)
IsGrid-open_grid width height wide narrow high low =
    record {
      width = (wide, narrow);
      height = (high, low);
      rows = length-replicate {A = ℕ} 64 0;
      walls = λ x y walled. absurd (false≢true (sym (is_walled-open_grid width height x y) ∙ walled));
    }

-- a grid with a wall more in it is a grid
pub IsGrid-with_wall : (grid : Grid) (x y : ℕ) → IsGrid grid → x < grid.width → y < grid.height → IsGrid (with_wall grid x y)
unfolding with_wall
IsGrid-with_wall grid x y sound column row = record {
  width = sound.width;
  height = sound.height;
  rows = length-set _ _ _ ∙ sound.rows;
  walls = λ a b walled. elim (or_cases (is_walled grid a b) ((a == x) && (b == y)) (sym (is_walled-with_wall grid x y a b (omega (arith, sound.rows, sound.height.1))) ∙ walled)) [
    | inl old ↦ sound.walls a b old
    | inr new ↦ let e : a ≡ x = eqb-true a x (and_parts (a == x) (b == y) new).0 in let f : b ≡ y =
        eqb-true b y (and_parts (a == x) (b == y) new).1 in (omega (arith, e, column), omega (arith, f, row))
  ];
}

-- a bit that the shift of a 64-bit number sets
pub shifted_one : (x : ℕ) → x < 64 → 1 * 2 ^ x % 18446744073709551616 ≡ 2 ^ x
shifted_one x below = one_shl x 64 below

-- no column of a grid is beyond a byte
pub is_free-wide : (grid : Grid) (x y : ℤ) → IsGrid grid → (FitsUnsignedBits 8 x → ⊥) → false ≡ is_free grid x y
unfolding is_open
is_free-wide grid (pos x) (pos y) sound wide = elim (cases_lt x 256) [ inl fits ↦ absurd (wide fits) | inr beyond ↦ sym (and_left _ _ (le-ltb x grid.width (omega (arith, sound.width.1)))) ]
is_free-wide grid (pos x) (negsuc y) sound wide = refl
is_free-wide grid (negsuc x) y sound wide = refl

-- no row of a grid is beyond a byte
pub is_free-high : (grid : Grid) (x y : ℤ) → IsGrid grid → (FitsUnsignedBits 8 y → ⊥) → false ≡ is_free grid x y
unfolding is_open
is_free-high grid (pos x) (pos y) sound high =
    elim (cases_lt y 256) [
      | inl fits ↦ absurd (high fits)
      | inr beyond ↦
          sym (and_right _ _ (and_left _ _ (le-ltb y grid.height (omega (arith, sound.height.1)))))
    ]
is_free-high grid (pos x) (negsuc y) sound high = refl
is_free-high grid (negsuc x) y sound high = refl

-- a wall more, in cells
pub IsWalled-with_wall : (grid : Grid) (x y a b : ℕ) → y < length grid.walls → IsWalled (with_wall grid x y) a b ↔ (IsWalled grid a b ⊎ ((a ≡ x) × (b ≡ y)))
IsWalled-with_wall grid x y a b within =
    let cells = is_walled-with_wall grid x y a b within in (
      λ walled. elim (or_cases (is_walled grid a b) ((a == x) && (b == y)) (sym cells ∙ walled)) [
        | inl old ↦ inl old
        | inr new ↦ inr (eqb-true a x (and_parts (a == x) (b == y) new).0, eqb-true b y (and_parts (a == x) (b == y) new).1)
      ],
      λ either. cells ∙ elim either [
        | inl old ↦ ap (λ w. w || ((a == x) && (b == y))) old
        | inr new ↦ grind (arith, nat_tests, eq-eqb a x new.0, eq-eqb b y new.1)
      ],
    )

pub no_wall : (width height x y : ℕ) → IsWalled (open_grid width height) x y → ⊥
no_wall width height x y walled = false≢true (sym (is_walled-open_grid width height x y) ∙ walled)
