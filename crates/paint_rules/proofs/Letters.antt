-- A player's cells are as many as the letters of that player in the rows.
use Rattle.std.proofs.Common.{◌≡◌, ◌∙◌, ℕ, zero, suc, ◌+◌, ◌*◌, ◌-◌, ◌<◌, ◌≤◌, ◌==◌, ◌&&◌, not, Bool, true, false, cond, ltb, List, [], ◌∷◌, ◌++◌, length, map, get_or, inl, inr, refl, sym, ap, add-one, arith}
use Rattle.std.specs.List.{flat_map, range_with_len}
use Rattle.std.proofs.lemmas.Bool.{cases_eq}
use Rattle.std.proofs.lemmas.Bool.Decides.{nat_tests}
use Rattle.std.proofs.lemmas.Grind.{flat_map-append}
use Rattle.game_trait.specs.Count.{times}
use Rattle.game_trait.proofs.Counts.{times-append, times-agree}
use Rattle.game_trait.proofs.Lists.{all-at}
use Rattle.match_setup.specs.Ground.{Grid, IsGrid, is_walled, is_open}
use Rattle.paint_rules.specs.Owners.{owner_of, owned}
use Rattle.paint_rules.specs.World.{AreOwners}
use Rattle.paint_rules.specs.Block.{owner_byte, cell_byte, row_word}

-- ---- counting over numbers in a row

-- a row of numbers, and another behind it
range-append : (a m n : ℕ) → range_with_len a (m + n) ≡ range_with_len a m ++ range_with_len (a + m) n
range-append a zero n = (let e : a + 0 ≡ a = omega arith in let f : 0 + n ≡ n = omega arith in rw (e, f) refl)
range-append a (suc m) n =
    let e : suc m + n ≡ suc (m + n) = omega arith in
    let f : (a + 1) + m ≡ a + suc m = omega arith in
    rw e (ap (λ (l : List ℕ). a ∷ l) (range-append (a + 1) m n ∙ ap (λ (b : ℕ). range_with_len (a + 1) m ++ range_with_len b n) f))

-- numbers that are so much greater
times-shift : (p : ℕ → Bool) (k a n : ℕ) → times p (range_with_len (a + k) n) ≡ times (λ i. p (i + k)) (range_with_len a n)
unfolding times
times-shift p k a zero = refl
times-shift p k a (suc n) =
    let e : (a + k) + 1 ≡ (a + 1) + k = omega arith in
    ap (λ (m : ℕ). cond {A = ℕ} (p (a + k)) 1 0 + m) (ap (λ (b : ℕ). times p (range_with_len b n)) e ∙ times-shift p k (a + 1) n)

-- none of them
times-none : (p : ℕ → Bool) (a n : ℕ) → ((i : ℕ) → a ≤ i → i < a + n → p i ≡ false) → times p (range_with_len a n) ≡ 0
unfolding times
times-none p a zero none = refl
times-none p a (suc n) none =
    let here : p a ≡ false = none a (omega arith) (omega arith) in
    let rest = times-none p (a + 1) n (λ i from to. none i (omega (arith, from)) (omega (arith, to))) in
    rw here (omega (arith, rest))

-- two tests that agree on them
times-alike : (p q : ℕ → Bool) (a n : ℕ) → ((i : ℕ) → a ≤ i → i < a + n → p i ≡ q i) → times p (range_with_len a n) ≡ times q (range_with_len a n)
unfolding times
times-alike p q a zero same = refl
times-alike p q a (suc n) same =
    let here : p a ≡ q a = same a (omega arith) (omega arith) in
    let rest = times-alike p q (a + 1) n (λ i from to. same i (omega (arith, from)) (omega (arith, to))) in
    rw (here, rest) refl

times-map : (q : ℕ → Bool) (f : ℕ → ℕ) (xs : List ℕ) → times q (map f xs) ≡ times (λ x. q (f x)) xs
unfolding times
times-map q f [] = refl
times-map q f (x ∷ xs) = ap (λ (m : ℕ). cond {A = ℕ} (q (f x)) 1 0 + m) (times-map q f xs)

-- the elements of a list by their places
times-places : (p : ℕ → Bool) (xs : List ℕ) → times p xs ≡ times (λ i. p (get_or {A = ℕ} xs i 32)) (range_with_len 0 (length xs))
unfolding times
times-places p [] = refl
times-places p (x ∷ xs) =
    let next : times (λ i. p (get_or {A = ℕ} (x ∷ xs) i 32)) (range_with_len (0 + 1) (length xs)) ≡ times (λ i. p (get_or {A = ℕ} xs i 32)) (range_with_len 0 (length xs)) =
    times-shift (λ i. p (get_or {A = ℕ} (x ∷ xs) i 32)) 1 0 (length xs)
    ∙ times-agree (λ i. p (get_or {A = ℕ} (x ∷ xs) (i + 1) 32)) (λ i. p (get_or {A = ℕ} xs i 32)) (range_with_len 0 (length xs))
    (λ i. ap (λ (k : ℕ). p (get_or {A = ℕ} (x ∷ xs) k 32)) (add-one i)) in
    ap (λ (m : ℕ). cond {A = ℕ} (p x) 1 0 + m) (times-places p xs ∙ sym next)

-- ---- rows

-- what rows come to, in all
sums : (ℕ → ℕ) → ℕ → ℕ
sums g zero = 0
sums g (suc n) = sums g n + g n

sums-alike : (f g : ℕ → ℕ) (n : ℕ) → ((y : ℕ) → y < n → f y ≡ g y) → sums f n ≡ sums g n
unfolding sums
sums-alike f g zero same = refl
sums-alike f g (suc n) same =
    let here : f n ≡ g n = same n (omega arith) in
    let front = sums-alike f g n (λ y below. same y (omega (arith, below))) in
    rw (here, front) refl

sums-more : (g : ℕ → ℕ) (h n : ℕ) → ((y : ℕ) → h ≤ y → y < h + n → g y ≡ 0) → sums g (h + n) ≡ sums g h
unfolding sums
sums-more g h zero none = (let e : h + 0 ≡ h = omega arith in rw e refl)
sums-more g h (suc n) none =
    let e : h + suc n ≡ suc (h + n) = omega arith in
    let last : g (h + n) ≡ 0 = none (h + n) (omega arith) (omega arith) in
    let front = sums-more g h n (λ y from to. none y from (omega (arith, to))) in
    rw e (omega (arith, last, front))

-- 64 places for each row
times-rows : (p : ℕ → Bool) (n : ℕ) → times p (range_with_len 0 (64 * n)) ≡ sums (λ y. times (λ x. p (x + 64 * y)) (range_with_len 0 64)) n
unfolding times sums
times-rows p zero = refl
times-rows p (suc n) =
    let e : 64 * suc n ≡ 64 * n + 64 = omega arith in
    let row : times p (range_with_len (0 + 64 * n) 64) ≡ times (λ x. p (x + 64 * n)) (range_with_len 0 64) = times-shift p (64 * n) 0 64 in
    let both : times p (range_with_len 0 (64 * n)) + times p (range_with_len (0 + 64 * n) 64)
    ≡ sums (λ y. times (λ x. p (x + 64 * y)) (range_with_len 0 64)) n + times (λ x. p (x + 64 * n)) (range_with_len 0 64) =
    rw (times-rows p n) (ap (λ (m : ℕ). sums (λ y. times (λ x. p (x + 64 * y)) (range_with_len 0 64)) n + m) row) in
    ap (λ (k : ℕ). times p (range_with_len 0 k)) e
    ∙ ap (λ (l : List ℕ). times p l) (range-append 0 (64 * n) 64)
    ∙ times-append p (range_with_len 0 (64 * n)) (range_with_len (0 + 64 * n) 64)
    ∙ both

-- the rows of words one after the other
times-words : (q : ℕ → Bool) (w : ℕ → List ℕ) (n : ℕ) → times q (flat_map w (range_with_len 0 n)) ≡ sums (λ y. times q (w y)) n
unfolding times sums
times-words q w zero = refl
times-words q w (suc n) =
    let e : suc n ≡ n + 1 = omega arith in
    let at : 0 + n ≡ n = omega arith in
    let last : times q (flat_map w (range_with_len (0 + n) 1)) ≡ times q (w n) =
    ap (λ (k : ℕ). times q (w k ++ [])) at ∙ times-append q (w n) [] ∙ (let z : times q (w n) + 0 ≡ times q (w n) = omega arith in z) in
    let both : times q (flat_map w (range_with_len 0 n)) + times q (flat_map w (range_with_len (0 + n) 1)) ≡ sums (λ y. times q (w y)) n + times q (w n) =
    rw (times-words q w n) (ap (λ (m : ℕ). sums (λ y. times q (w y)) n + m) last) in
    ap (λ (k : ℕ). times q (flat_map w (range_with_len 0 k))) e
    ∙ ap (λ (l : List ℕ). times q (flat_map w l)) (range-append 0 n 1)
    ∙ ap (λ (l : List ℕ). times q l) (flat_map-append w (range_with_len 0 n) (range_with_len (0 + n) 1))
    ∙ times-append q (flat_map w (range_with_len 0 n)) (flat_map w (range_with_len (0 + n) 1))
    ∙ both

-- ---- letters

-- the byte of an owner, by its cases
byte-of : (o : ℕ) (P : ℕ → Type 0) → (o < 26 → P (97 + o)) → (26 ≤ o → o < 32 → P (65 + (o - 26))) → (32 ≤ o → P 46) → P (owner_byte o)
byte-of o P low mid high =
    elim (ltb o 26) as (λ v. ltb o 26 ≡ v → P (cond v (97 + o) (cond (ltb o 32) (65 + (o - 26)) 46))) [
      | true ↦ λ e. low (grind (arith, nat_tests))
      | false ↦ λ e.
          elim (ltb o 32) as (λ v. ltb o 32 ≡ v → P (cond v (65 + (o - 26)) 46))
          [ true ↦ λ f. mid (grind (arith, nat_tests)) (grind (arith, nat_tests)) | false ↦ λ f. high (grind (arith, nat_tests)) ] refl
    ]
    refl

-- no two owners have one letter
one-letter : (o k : ℕ) → o ≤ 32 → k < 32 → owner_byte o ≡ owner_byte k → o ≡ k
one-letter o k few player =
    byte-of o (λ b. b ≡ owner_byte k → o ≡ k)
    (λ a. byte-of k (λ c. 97 + o ≡ c → o ≡ k) (λ b e. omega (arith, a, b, e)) (λ b d e. omega (arith, a, b, d, e)) (λ b e. omega (arith, b, player)))
    (λ a z. byte-of k (λ c. 65 + (o - 26) ≡ c → o ≡ k) (λ b e. omega (arith, a, z, b, e)) (λ b d e. omega (arith, a, z, b, d, e)) (λ b e. omega (arith, b, player)))
    (λ a. byte-of k (λ c. 46 ≡ c → o ≡ k) (λ b e. omega (arith, b, e)) (λ b d e. omega (arith, b, d, e)) (λ b e. omega (arith, b, player)))

same-test : (a b c d : ℕ) → (a ≡ b → c ≡ d) → (c ≡ d → a ≡ b) → (a == b) ≡ (c == d)
same-test a b c d to from =
    elim (cases_eq a b) [
      | inl same ↦ (let one = to same in let x : (a == b) ≡ true = grind (arith, nat_tests) in let y : (c == d) ≡ true = grind (arith, nat_tests) in x ∙ sym y)
      | inr apart ↦ elim (cases_eq c d) [
        | inl same ↦ absurd (apart (from same))
        | inr other ↦ (let x : (a == b) ≡ false = grind (arith, nat_tests) in let y : (c == d) ≡ false = grind (arith, nat_tests) in x ∙ sym y)
      ]
    ]

-- a wall is nobody's letter
wall-letter : (k : ℕ) → k < 32 → (35 == owner_byte k) ≡ false
wall-letter k player =
    byte-of k (λ c. (35 == c) ≡ false) (λ b. grind (arith, nat_tests)) (λ b d. grind (arith, nat_tests)) (λ b. absurd (omega (arith, b, player)))

-- what stands past the grid isn't open
past-east : (grid : Grid) (x y : ℕ) → grid.width ≤ x → is_open grid x y ≡ false
unfolding is_open
past-east grid x y past = (let e : ltb x grid.width ≡ false = grind (arith, nat_tests) in rw e refl)

past-south : (grid : Grid) (x y : ℕ) → grid.height ≤ y → is_open grid x y ≡ false
unfolding is_open
past-south grid x y past =
    let e : ltb y grid.height ≡ false = grind (arith, nat_tests) in
    elim (ltb x grid.width) as (λ v. (v && (ltb y grid.height && not (is_walled grid x y))) ≡ false) [ true ↦ rw e refl | false ↦ refl ]

module _ (grid : Grid) (owners : List ℕ) (sound : IsGrid grid) (are : AreOwners grid owners) (k : ℕ) (player : k < 32) where
  -- what is shut isn't the player's
  shut-other : (x y : ℕ) → x < 64 → is_open grid x y ≡ false → (owner_of owners (record { x = x; y = y }) == k) ≡ false
  shut-other x y near shut =
      let nobody : owner_of owners (record { x = x; y = y }) ≡ 32 = are.shut x y near shut in
      rw nobody (grind (arith, nat_tests))

  -- a cell of the grid is the player's where its byte is the player's letter
  cell-letter : (x y : ℕ) → x < grid.width → y < grid.height → x < 64 → y < 64
      → (owner_of owners (record { x = x; y = y }) == k) ≡ (cell_byte grid owners x y == owner_byte k)
  unfolding is_open
  cell-letter x y column row near low =
      let left : ltb x grid.width ≡ true = grind (arith, nat_tests) in
      let above : ltb y grid.height ≡ true = grind (arith, nat_tests) in
      let o = owner_of owners (record { x = x; y = y }) in
      let long = are.whole in
      let few = all-at (λ o. o ≤ 32) owners (x + 64 * y) 32 are.known (omega (arith, long, near, low)) in
      elim (is_walled grid x y) as (λ v. is_walled grid x y ≡ v → (owner_of owners (record { x = x; y = y }) == k) ≡ (cond v 35 (owner_byte (owner_of owners (record { x = x; y = y }))) == owner_byte k)) [
        | true ↦ λ walled.
            (let shut : is_open grid x y ≡ false = rw (left, above, walled) refl in
            shut-other x y near shut ∙ sym (wall-letter k player))
        | false ↦ λ bare.
            same-test (owner_of owners (record { x = x; y = y })) k (owner_byte (owner_of owners (record { x = x; y = y }))) (owner_byte k)
            (λ e. ap owner_byte e) (one-letter (owner_of owners (record { x = x; y = y })) k few player)
      ] refl

  -- the player's cells of a row, and of one past the grid
  row-letters : (y : ℕ) → y < grid.height
      → times (λ x. get_or {A = ℕ} owners (x + 64 * y) 32 == k) (range_with_len 0 64) ≡ times (λ b. b == owner_byte k) (row_word grid owners y)
  row-letters y below =
      let p : ℕ → Bool = λ x. get_or {A = ℕ} owners (x + 64 * y) 32 == k in
      let wide : grid.width ≤ 64 = sound.width.1 in
      let high : grid.height ≤ 64 = sound.height.1 in
      let w = grid.width in
      let e : 64 ≡ w + (64 - w) = omega (arith, wide) in
      let behind : times p (range_with_len (0 + w) (64 - w)) ≡ 0 =
      times-none p (0 + w) (64 - w) (λ x from to. shut-other x y (omega (arith, wide, to)) (past-east grid x y (omega (arith, from)))) in
      let front : times p (range_with_len 0 w) ≡ times (λ x. cell_byte grid owners x y == owner_byte k) (range_with_len 0 w) =
      times-alike p (λ x. cell_byte grid owners x y == owner_byte k) 0 w
      (λ x from to. cell-letter x y (omega (arith, to)) below (omega (arith, wide, to)) (omega (arith, high, below))) in
      ap (λ (n : ℕ). times p (range_with_len 0 n)) e
      ∙ ap (λ (l : List ℕ). times p l) (range-append 0 w (64 - w))
      ∙ times-append p (range_with_len 0 w) (range_with_len (0 + w) (64 - w))
      ∙ (let z : times p (range_with_len 0 w) + times p (range_with_len (0 + w) (64 - w)) ≡ times p (range_with_len 0 w) = omega (arith, behind) in z)
      ∙ front
      ∙ sym (times-map (λ b. b == owner_byte k) (λ x. cell_byte grid owners x y) (range_with_len 0 w))

  row-past : (y : ℕ) → grid.height ≤ y → times (λ x. get_or {A = ℕ} owners (x + 64 * y) 32 == k) (range_with_len 0 64) ≡ 0
  row-past y past = times-none (λ x. get_or {A = ℕ} owners (x + 64 * y) 32 == k) 0 64 (λ x from to. shut-other x y (omega (arith, to)) (past-south grid x y past))

  pub letters : owned k owners ≡ times (λ b. b == owner_byte k) (flat_map (row_word grid owners) (range_with_len 0 grid.height))
  letters =
      let row : ℕ → ℕ = λ y. times (λ x. get_or {A = ℕ} owners (x + 64 * y) 32 == k) (range_with_len 0 64) in
      let high : grid.height ≤ 64 = sound.height.1 in
      let h = grid.height in
      let e : 64 ≡ h + (64 - h) = omega (arith, high) in
      times-places (λ o. o == k) owners
      ∙ ap (λ (n : ℕ). times (λ i. get_or {A = ℕ} owners i 32 == k) (range_with_len 0 n)) are.whole
      ∙ times-rows (λ i. get_or {A = ℕ} owners i 32 == k) 64
      ∙ ap (λ (n : ℕ). sums row n) e
      ∙ sums-more row h (64 - h) (λ y from to. row-past y from)
      ∙ sums-alike row (λ y. times (λ b. b == owner_byte k) (row_word grid owners y)) h row-letters
      ∙ sym (times-words (λ b. b == owner_byte k) (row_word grid owners) h)
