-- Running counts after a change of owner.
use Rattle.std.proofs.Common.{◌≡◌, ℕ, zero, suc, ◌+◌, ◌-◌, ◌<◌, ◌≤◌, Bool, true, false, cond, List, [], ◌∷◌, length, replicate, slice_set, slice_index_or, refl, ap, sym, subst, ◌∙◌, arith}
use Rattle.std.specs.Prelude.{◌==◌}
use Rattle.std.proofs.lemmas.Bool.{eqb-true, eqb-false}
use Rattle.std.proofs.lemmas.Bool.Decides.{nat_tests}
use Rattle.std.proofs.lemmas.List.{get_or-set_same, get_or-set_other, get_or-replicate, length-set}
use Rattle.std.specs.List.{AllByRecursion}
use Rattle.game_trait.specs.Count.{times}
use Rattle.game_trait.proofs.Lists.{all-at}
use Rattle.game_trait.proofs.Counts.{times-most}
use Rattle.paint_rules.specs.Owners.{owned, unowned, AreCounts}

-- one element is replaced
times-set : (p : ℕ → Bool) (xs : List ℕ) (i y : ℕ) → i < length xs → times p (slice_set xs i y) + cond (p (slice_index_or xs i 0)) 1 0 ≡ times p xs + cond (p y) 1 0
unfolding times
times-set p [] i y h = absurd (omega arith)
times-set p (x ∷ xs) zero y h = omega arith
times-set p (x ∷ xs) (suc i) y h = omega (arith, times-set p xs i y (omega arith))

-- who owns a cell owns at least one
pub owned-one : (xs : List ℕ) (i : ℕ) → i < length xs → 1 ≤ owned (slice_index_or xs i 0) xs
owned-one xs i h =
    let b = slice_index_or xs i 0 in
    let t = times-set (λ o. o == b) xs i (b + 1) h in
    let other : (b + 1 == b) ≡ false = grind (arith, nat_tests) in
    let same : (b == b) ≡ true = grind (arith, nat_tests) in
    let t' = rw (other, same) at t in omega (arith, t')

index-set : (xs : List ℕ) (i j y : ℕ) → i < length xs → slice_index_or (slice_set xs i y) j 0 ≡ cond (i == j) y (slice_index_or xs j 0)
index-set xs i j y h = (elim (i == j) as (λ v. (i == j) ≡ v → slice_index_or (slice_set xs i y) j 0 ≡ cond v y (slice_index_or xs j 0)) [
  | true ↦ λ e. subst (λ (k : ℕ). slice_index_or (slice_set xs i y) k 0 ≡ y) (eqb-true i j e) (get_or-set_same xs i y 0 h)
  | false ↦ λ e. get_or-set_other xs i j y 0 (λ s. eqb-false i j e (sym s))
]) refl

sums :
    (x y z : Bool) (tb to tp n v w u : ℕ) → (x ≡ true → to ≡ tp) → (y ≡ true → tb ≡ tp) → (x ≡ true → y ≡ z) → 1 ≤ tb
    → n + cond y 1 0 ≡ tp + cond x 1 0 → w ≡ cond z (tb - 1) to → u ≡ cond y (tb - 1) tp → v ≡ cond x (w + 1) u → v ≡ n
sums true true true tb to tp n v w u f g h one a b c d = (let g' = g refl in omega (arith, g', one, a, b, c, d))
sums true true false tb to tp n v w u f g h one a b c d = (let no = h refl in cc)
sums true false true tb to tp n v w u f g h one a b c d = (let no = h refl in cc)
sums true false false tb to tp n v w u f g h one a b c d = (let f' = f refl in omega (arith, f', one, a, b, c, d))
sums false true z tb to tp n v w u f g h one a b c d = (let g' = g refl in omega (arith, g', one, a, c, d))
sums false false z tb to tp n v w u f g h one a b c d = omega (arith, one, a, c, d)

-- one less for the owner before, and one more for the owner now
pub repainted :
    (counts owners : List ℕ) (cell owner : ℕ) → AreCounts counts owners → length counts ≡ 33 → cell < length owners → slice_index_or owners cell 0 < 33 → owner < 33
    → AreCounts (slice_set (slice_set counts (slice_index_or owners cell 0) (slice_index_or counts (slice_index_or owners cell 0) 0 - 1)) owner
    (slice_index_or (slice_set counts (slice_index_or owners cell 0) (slice_index_or counts (slice_index_or owners cell 0) 0 - 1)) owner 0 + 1)) (slice_set owners cell owner)
repainted counts owners cell owner are long within before now player few =
    let b = slice_index_or owners cell 0 in
    let c1 = slice_set counts b (slice_index_or counts b 0 - 1) in
    let l1 : length c1 ≡ 33 = length-set counts b (slice_index_or counts b 0 - 1) ∙ long in
    let s2 = index-set c1 owner player (slice_index_or c1 owner 0 + 1) (omega (arith, l1, now)) in
    let s1 = index-set counts b owner (slice_index_or counts b 0 - 1) (omega (arith, long, before)) in
    let s1' = index-set counts b player (slice_index_or counts b 0 - 1) (omega (arith, long, before)) in
    let changed = times-set (λ o. o == player) owners cell owner within in
    let one = owned-one owners cell within in
    let cb = are b before in
    let co = are owner now in
    let cp = are player few in
    sums (owner == player) (b == player) (b == owner) (owned b owners) (owned owner owners) (owned player owners) _ _ _ _
    (λ e. ap (λ (k : ℕ). owned k owners) (eqb-true owner player e)) (λ e. ap (λ (k : ℕ). owned k owners) (eqb-true b player e))
    (λ e. ap (λ (k : ℕ). b == k) (sym (eqb-true owner player e))) one changed (s1 ∙ rw (cb, co) refl) (s1' ∙ rw (cb, cp) refl) s2

all-set : (P : ℕ → Type 0) (xs : List ℕ) (i y : ℕ) → AllByRecursion P xs → P y → AllByRecursion P (slice_set xs i y)
all-set P [] i y h here = tt
all-set P (x ∷ xs) zero y h here = (here, h.1)
all-set P (x ∷ xs) (suc i) y h here = (h.0, all-set P xs i y h.1 here)

pub owners-set : (xs : List ℕ) (i y : ℕ) → AllByRecursion (λ o. o ≤ 32) xs → y ≤ 32 → AllByRecursion (λ o. o ≤ 32) (slice_set xs i y)
owners-set xs i y h here = all-set (λ o. o ≤ 32) xs i y h here

pub owner-at : (xs : List ℕ) (i : ℕ) → AllByRecursion (λ o. o ≤ 32) xs → i < length xs → slice_index_or xs i 0 < 33
owner-at xs i h within = (let o = all-at (λ o. o ≤ 32) xs i 0 h within in omega (arith, o))

-- no count is above the number of cells
pub few-owned :
    (counts owners : List ℕ) (b owner : ℕ) → AreCounts counts owners → length counts ≡ 33 → b < 33 → owner < 33
    → slice_index_or (slice_set counts b (slice_index_or counts b 0 - 1)) owner 0 ≤ length owners
few-owned counts owners b owner are long before now =
    let cb = are b before in
    let co = are owner now in
    let mb = times-most (λ o. o == b) owners in
    let mo = times-most (λ o. o == owner) owners in
    rw (index-set counts b owner (slice_index_or counts b 0 - 1) (omega (arith, long, before)))
    (elim (b == owner) as (λ v. cond v (slice_index_or counts b 0 - 1) (slice_index_or counts owner 0) ≤ length owners)
    [ true ↦ omega (arith, cb, mb) | false ↦ omega (arith, co, mo) ])

-- nobody owns all of n cells, and nobody else one
times-replicate : (p : ℕ → Bool) (n x : ℕ) → times p (replicate n x) ≡ cond (p x) n 0
unfolding times
times-replicate p zero x = elim (p x) as (λ v. 0 ≡ cond {A = ℕ} v 0 0) [ true ↦ refl | false ↦ refl ]
times-replicate p (suc n) x =
    elim (p x) as (λ v. times p (replicate n x) ≡ cond {A = ℕ} v n 0 → cond {A = ℕ} v 1 0 + times p (replicate n x) ≡ cond {A = ℕ} v (suc n) 0)
    [ true ↦ λ h. omega (arith, h) | false ↦ λ h. omega (arith, h) ] (times-replicate p n x)

owned-replicate : (n player : ℕ) → player < 33 → slice_index_or (slice_set (replicate 33 0) 32 n) player 0 ≡ owned player (replicate n 32)
owned-replicate n player few =
    index-set (replicate 33 0) 32 player n (omega arith)
    ∙ rw (times-replicate (λ o. o == player) n 32, get_or-replicate {A = ℕ} 33 player 0 0 few) refl

-- the counts where every cell is nobody's
pub AreCounts-unowned : AreCounts (slice_set (replicate 33 0) 32 4096) unowned
unfolding unowned
AreCounts-unowned = λ player few. owned-replicate 4096 player few

all-replicate : (n x : ℕ) → x ≤ 32 → AllByRecursion (λ o. o ≤ 32) (replicate n x)
all-replicate zero x few = tt
all-replicate (suc n) x few = (few, all-replicate n x few)

pub owners-unowned : AllByRecursion (λ o. o ≤ 32) unowned
unfolding unowned
owners-unowned = all-replicate 4096 32 (omega arith)
