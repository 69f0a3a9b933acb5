-- Buckets that are emptied and filled anew.
use Rattle.std.proofs.Common.{◌≡◌, refl, ◌∙◌, sym, ap, ℕ, zero, suc, ◌+◌, ◌*◌, ◌≤◌, ◌<◌, List, [], ◌∷◌, ◌++◌, map, length, get_or, set, take, drop, ⊎_elim, arith, length-append}
use Rattle.std.proofs.lemmas.Bool.{cases_lt}
use Rattle.std.proofs.lemmas.List.{length-map, map-set, append_assoc, drop_more}
use Rattle.std.specs.List.{insert}
use Rattle.pending_list.specs.declared.keyed.Placed.{Placed}
use Rattle.pending_list.specs.Sized.{joined, AreBuckets}
use Rattle.pending_list.specs.Keyed.{placed_of}
use Rattle.pending_list.proofs.Cut.{joined-is, get-set}

-- one put at the end
pub insert-end : {X : Type 0} (xs : List X) (x : X) → insert xs (length xs) x ≡ xs ++ x ∷ []
insert-end [] x = refl
insert-end {X} (y ∷ xs) x = ap (λ (l : List X). y ∷ l) (insert-end xs x)

drop-nothing : {X : Type 0} (n : ℕ) → drop {A = X} n [] ≡ []
drop-nothing zero = refl
drop-nothing (suc n) = refl

get-past : {X : Type 0} (xs : List X) (i : ℕ) (d : X) → length xs ≤ i → get_or xs i d ≡ d
get-past [] zero d past = refl
get-past [] (suc i) d past = refl
get-past (x ∷ xs) zero d past = absurd (omega arith)
get-past (x ∷ xs) (suc i) d past = get-past xs i d (omega arith)

-- the first so many buckets hold nothing
abbrev pub IsEmptyUpto : List (List Placed) → ℕ → Type 0
IsEmptyUpto buckets n = (i : ℕ) → i < n → get_or buckets i [] ≡ []

pub empty-cut : (buckets : List (List Placed)) (n : ℕ) → length buckets ≤ n → IsEmptyUpto buckets n → AreBuckets [] buckets
empty-cut buckets n all h i =
    ⊎_elim
    (λ (low : i < n). h i low ∙ sym (ap (λ (l : List Placed). take 2048 l) (drop-nothing (2048 * i))))
    (λ (past : n ≤ i). get-past buckets i [] (omega arith) ∙ sym (ap (λ (l : List Placed). take 2048 l) (drop-nothing (2048 * i))))
    (cases_lt i n)

pub empty-joined : (buckets : List (List Placed)) (n : ℕ) → length buckets ≤ n → IsEmptyUpto buckets n → joined buckets ≡ []
empty-joined buckets n all h = joined-is [] buckets (empty-cut buckets n all h)

-- one bucket more is emptied
pub empty-more :
    {D : Type 0} (f : D → List Placed) (buckets : List D) (i : ℕ) (now : D) → i < length buckets → f now ≡ [] → IsEmptyUpto (map f buckets) i
    → IsEmptyUpto (map f (set buckets i now)) (i + 1)
empty-more f buckets i now there none h k below =
    let many = length-map buckets f in
    rw (map-set f buckets i now)
    (get-set (map f buckets) i k (f now) [] (omega arith) (λ same. none) (λ apart. let low : k < i = grind arith in h k low))

-- one slot more stands at the end
pub items-more :
    (order now : List Placed) (ys : List ℕ) (i place : ℕ) (d : ℕ) → i < length ys
    → order ++ map placed_of (drop i ys) ≡ map placed_of ys → length order ≡ place → now ≡ insert order place (placed_of (get_or ys i d))
    → (now ++ map placed_of (drop (i + 1) ys) ≡ map placed_of ys) × (length now ≡ place + 1)
items-more order now ys i place d below items long put =
    let y = placed_of (get_or ys i d) in
    let rest = map placed_of (drop (i + 1) ys) in
    let pushed : now ≡ order ++ y ∷ [] = put ∙ ap (λ (n : ℕ). insert order n y) (sym long) ∙ insert-end order y in
    let more = length-append order (y ∷ []) in (
      ap (λ (l : List Placed). l ++ rest) pushed ∙ append_assoc order (y ∷ []) rest
          ∙ ap (λ (l : List ℕ). order ++ map placed_of l) (sym (drop_more ys i d below)) ∙ items,
      ap (λ (l : List Placed). length l) pushed ∙ omega arith,
    )
