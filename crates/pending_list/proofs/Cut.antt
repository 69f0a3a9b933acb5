-- An order that is kept in buckets: what stands at a place, and where one more is put.
use Rattle.std.proofs.Common.{◌≡◌, refl, sym, ap, ◌∙◌, ℕ, zero, suc, ◌+◌, ◌-◌, ◌*◌, ◌≤◌, ◌<◌, List, [], ◌∷◌, take, drop, length, get_or, set, map, min, ⊎_elim, arith}
use Rattle.std.proofs.lemmas.List.{length-take, take-append-drop, drop-drop, get_or-set_same, get_or-set_other}
use Rattle.std.proofs.lemmas.List.Edits.{length-insert}
use Rattle.std.proofs.lemmas.Bool.{cases_eq, cases_lt}
use Rattle.std.specs.Prelude.{Option, Some, None, slice_get}
use Rattle.std.specs.List.{AllByRecursion, insert}
use Rattle.pending_list.specs.declared.keyed.Placed.{Placed}
use Rattle.pending_list.specs.Sized.{joined, AreBuckets}

pub length-drop : {X : Type 0} (n : ℕ) (xs : List X) → length (drop n xs) ≡ length xs - n
length-drop zero xs = omega arith
length-drop (suc n) [] = omega arith
length-drop (suc n) (x ∷ xs) = omega (arith, length-drop n xs)

get-drop : {X : Type 0} (n i : ℕ) (xs : List X) (d : X) → get_or (drop n xs) i d ≡ get_or xs (n + i) d
get-drop zero i xs d = (let e : 0 + i ≡ i = omega arith in rw e refl)
get-drop (suc n) i [] d = nothing i
  where
    nothing : {X : Type 0} {d : X} (i : ℕ) → get_or [] i d ≡ d
    nothing zero = refl
    nothing (suc i) = refl
get-drop (suc n) i (x ∷ xs) d = (let e : suc n + i ≡ suc (n + i) = omega arith in rw e (get-drop n i xs d))

pub get-take : {X : Type 0} (n i : ℕ) (xs : List X) (d : X) → i < n → get_or (take n xs) i d ≡ get_or xs i d
get-take zero i xs d below = absurd (omega arith)
get-take (suc n) i [] d below = refl
get-take (suc n) zero (x ∷ xs) d below = refl
get-take (suc n) (suc i) (x ∷ xs) d below = get-take n i xs d (omega arith)

slice_get-drop : {X : Type 0} (n i : ℕ) (xs : List X) → slice_get (drop n xs) i ≡ slice_get xs (n + i)
slice_get-drop zero i xs = (let e : 0 + i ≡ i = omega arith in rw e refl)
slice_get-drop {X} (suc n) i [] = nothing X i
  where
    nothing : (X : Type 0) (i : ℕ) → slice_get {X = X} [] i ≡ None
    nothing X zero = refl
    nothing X (suc i) = refl
slice_get-drop (suc n) i (x ∷ xs) = (let e : suc n + i ≡ suc (n + i) = omega arith in rw e (slice_get-drop n i xs))

take-take : {X : Type 0} (m n : ℕ) (xs : List X) → m ≤ n → take m (take n xs) ≡ take m xs
take-take zero n xs upto = refl
take-take (suc m) zero xs upto = absurd (omega arith)
take-take (suc m) (suc n) [] upto = refl
take-take {X} (suc m) (suc n) (x ∷ xs) upto = ap (λ (l : List X). x ∷ l) (take-take m n xs (omega arith))

slice_get-take : {X : Type 0} (n i : ℕ) (xs : List X) → i < n → slice_get (take n xs) i ≡ slice_get xs i
slice_get-take zero i xs below = absurd (omega arith)
slice_get-take (suc n) i [] below = refl
slice_get-take (suc n) zero (x ∷ xs) below = refl
slice_get-take (suc n) (suc i) (x ∷ xs) below = slice_get-take n i xs (omega arith)

-- where none is found nothing stands
none-left : {X : Type 0} (xs : List X) (i : ℕ) → slice_get xs i ≡ None → length xs ≤ i
none-left [] i e = omega arith
none-left (x ∷ xs) zero e = absurd cc
none-left (x ∷ xs) (suc i) e = omega (arith, none-left xs i e)

some-left : {X : Type 0} (xs : List X) (i : ℕ) (x : X) → slice_get xs i ≡ Some x → drop i xs ≡ x ∷ drop (i + 1) xs
some-left [] i x e = absurd cc
some-left {X} (y ∷ ys) zero x e = (let same : y ≡ x = cc in ap (λ (z : X). z ∷ ys) same)
some-left (y ∷ ys) (suc i) x e = (let n : suc i + 1 ≡ suc (i + 1) = omega arith in rw n (some-left ys i x e))

drop-past : {X : Type 0} (n : ℕ) (xs : List X) → length xs ≤ n → drop n xs ≡ []
drop-past zero [] past = refl
drop-past zero (x ∷ xs) past = absurd (omega arith)
drop-past (suc n) [] past = refl
drop-past (suc n) (x ∷ xs) past = drop-past n xs (omega arith)

-- one put into the first so many of a list is put into the list
insert-front : {X : Type 0} (n place : ℕ) (xs : List X) (x : X) → place < n
    → (take n (insert (take n xs) place x) ≡ take n (insert xs place x))
    × (slice_get (insert (take n xs) place x) n ≡ slice_get (insert xs place x) n)
insert-front zero place xs x below = absurd (omega arith)
insert-front {X} (suc n) zero xs x below = (ap (λ (l : List X). x ∷ l) (take-take n (suc n) xs (omega arith)), slice_get-take (suc n) n xs (omega arith))
insert-front (suc n) (suc place) [] x below = (refl, refl)
insert-front {X} (suc n) (suc place) (y ∷ xs) x below =
    let rest = insert-front n place xs x (omega arith) in
    (ap (λ (l : List X). y ∷ l) rest.0, rest.1)

-- the first so many aren't changed by one that is put in behind them
insert-later : {X : Type 0} (n place : ℕ) (xs : List X) (x : X) → n ≤ place → place ≤ length xs → take n (insert xs place x) ≡ take n xs
insert-later zero place xs x upto within = refl
insert-later (suc n) zero xs x upto within = absurd (omega arith)
insert-later (suc n) (suc place) [] x upto within = absurd (omega arith)
insert-later {X} (suc n) (suc place) (y ∷ xs) x upto within = ap (λ (l : List X). y ∷ l) (insert-later n place xs x (omega arith) (omega arith))

drop-insert : {X : Type 0} (n place : ℕ) (xs : List X) (x : X) → n ≤ place → place ≤ length xs → drop n (insert xs place x) ≡ insert (drop n xs) (place - n) x
drop-insert zero place xs x upto within = (let e : place - 0 ≡ place = omega arith in rw e refl)
drop-insert (suc n) zero xs x upto within = absurd (omega arith)
drop-insert (suc n) (suc place) [] x upto within = absurd (omega arith)
drop-insert (suc n) (suc place) (y ∷ xs) x upto within = (let e : suc place - suc n ≡ place - n = omega arith in rw e (drop-insert n place xs x (omega arith) (omega arith)))

drop-past_insert : {X : Type 0} (n place : ℕ) (xs : List X) (x : X) → place ≤ n → place ≤ length xs → drop (n + 1) (insert xs place x) ≡ drop n xs
drop-past_insert n zero xs x past within = (let e : n + 1 ≡ suc n = omega arith in rw e refl)
drop-past_insert zero (suc place) xs x past within = absurd (omega arith)
drop-past_insert (suc n) (suc place) [] x past within = absurd (omega arith)
drop-past_insert (suc n) (suc place) (y ∷ xs) x past within = (let e : suc n + 1 ≡ suc (n + 1) = omega arith in rw e (drop-past_insert n place xs x (omega arith) (omega arith)))

-- what is kept in buckets is what the buckets hold one behind the other
pub joined-is : (order : List Placed) (buckets : List (List Placed)) → AreBuckets order buckets → joined buckets ≡ order
unfolding joined
joined-is [] [] cut = refl
joined-is (x ∷ order) [] cut = absurd (let e = ap (λ (l : List Placed). length l) (cut 0) in let n = length-take 2048 (x ∷ order) in omega arith)
joined-is order (bucket ∷ buckets) cut =
    let first : bucket ≡ take 2048 order = cut 0 in
    let rest : joined buckets ≡ drop 2048 order = joined-is (drop 2048 order) buckets (λ i.
    let e : 2048 + 2048 * i ≡ 2048 * suc i = omega arith in
    cut (suc i) ∙ ap (λ (k : ℕ). take 2048 (drop k order)) (sym e) ∙ ap (λ (l : List Placed). take 2048 l) (sym (drop-drop (2048 * i) 2048 order))) in
    rw (first, rest) (take-append-drop 2048 order)

-- what stands in a bucket stands at its place of the order
pub bucket-at :
    (order : List Placed) (buckets : List (List Placed)) (i place : ℕ) (d : Placed) → AreBuckets order buckets → place < 2048 → 2048 * i + place < length order
    → (i < length buckets) × ((place < length (get_or buckets i [])) × (get_or (get_or buckets i []) place d ≡ get_or order (2048 * i + place) d))
bucket-at order buckets i place d cut below there =
    let here = cut i in
    let long : length (get_or buckets i []) ≡ min 2048 (length order - 2048 * i) =
    ap (λ (l : List Placed). length l) here ∙ length-take 2048 (drop (2048 * i) order) ∙ ap (λ (n : ℕ). min 2048 n) (length-drop (2048 * i) order) in
    let within : place < length (get_or buckets i []) = grind arith in (
      inside buckets i place within,
      (within, ap (λ (l : List Placed). get_or l place d) here ∙ get-take 2048 place (drop (2048 * i) order) d below ∙ get-drop (2048 * i) place order d),
    )
  where
    inside : (buckets : List (List Placed)) (i place : ℕ) → place < length (get_or buckets i []) → i < length buckets
    inside [] i place h = absurd (omega arith)
    inside (b ∷ buckets) zero place h = omega arith
    inside (b ∷ buckets) (suc i) place h = omega (arith, inside buckets i place h)

-- one put into a bucket from which the last was taken where it was full
pub insert-popped : {X : Type 0} (n place : ℕ) (xs : List X) (x : X) → place ≤ n → place ≤ length xs
    → (insert (take n xs) place x ≡ take (suc n) (insert xs place x)) × (slice_get xs n ≡ slice_get (insert xs place x) (suc n))
insert-popped n zero xs x upto within = (refl, refl)
insert-popped zero (suc place) xs x upto within = absurd (omega arith)
insert-popped (suc n) (suc place) [] x upto within = absurd (omega arith)
insert-popped {X} (suc n) (suc place) (y ∷ xs) x upto within =
    let rest = insert-popped n place xs x (omega arith) (omega arith) in
    (ap (λ (l : List X). y ∷ l) rest.0, rest.1)

-- the buckets up to one are those of the order with one more, the others are to be seen to, and the first
-- of these lacks a slot at its front
pub record IsPutUpto (xs ys : List Placed) (buckets : List (List Placed)) (i : ℕ) (over : Option Placed) : Type 0 where
  pub front : (k : ℕ) → k ≤ i → get_or buckets k [] ≡ take 2048 (drop (2048 * k) ys)
  pub back : (k : ℕ) → i < k → get_or buckets k [] ≡ take 2048 (drop (2048 * k) xs)
  pub over_is : over ≡ slice_get ys (2048 * i + 2048)

-- a bucket among others
pub get-set :
    (buckets : List (List Placed)) (i k : ℕ) (bucket other : List Placed) → i < length buckets → (k ≡ i → bucket ≡ other)
    → ((k ≡ i → ⊥) → get_or buckets k [] ≡ other) → get_or (set buckets i bucket) k [] ≡ other
get-set buckets i k bucket other there same apart =
    ⊎_elim
    (λ (e : k ≡ i). ap (λ (n : ℕ). get_or (set buckets i bucket) n []) e ∙ get_or-set_same buckets i bucket [] there ∙ same e)
    (λ (e : k ≡ i → ⊥). get_or-set_other buckets i k bucket [] e ∙ apart e)
    (cases_eq k i)

pub put-first :
    (xs : List Placed) (buckets : List (List Placed)) (i r place : ℕ) (slot : Placed) → AreBuckets xs buckets → place ≡ 2048 * i + r → r < 2048 → place ≤ length xs → i < length buckets
    → IsPutUpto xs (insert xs place slot) (set buckets i (take 2048 (insert (get_or buckets i []) r slot))) i (slice_get (insert (get_or buckets i []) r slot) 2048)
put-first xs buckets i r place slot cut here below within there =
    let rest = drop (2048 * i) xs in
    let ys = insert xs place slot in
    let now = take 2048 (insert (get_or buckets i []) r slot) in
    let behind : drop (2048 * i) ys ≡ insert rest r slot =
    drop-insert (2048 * i) place xs slot (omega arith) within ∙ ap (λ (n : ℕ). insert rest n slot) (let e : place - 2048 * i ≡ r = omega arith in e) in
    let put = insert-front 2048 r rest slot below in
    let bucket = cut i in
    let is_now : now ≡ take 2048 (drop (2048 * i) ys) = ap (λ (l : List Placed). take 2048 (insert l r slot)) bucket ∙ put.0 ∙ ap (λ (l : List Placed). take 2048 l) (sym behind) in
    record {
      front = λ k upto. get-set buckets i k now (take 2048 (drop (2048 * k) ys)) there
          (λ e. is_now ∙ ap (λ (n : ℕ). take 2048 (drop (2048 * n) ys)) (sym e))
          (λ apart. let low : k < i = grind arith in cut k ∙ ahead k low);
      back = λ k past. get-set buckets i k now (take 2048 (drop (2048 * k) xs)) there (λ e. absurd (omega arith)) (λ _. cut k);
      over_is =
          ap (λ (l : List Placed). slice_get (insert l r slot) 2048) bucket ∙ put.1 ∙ ap (λ (l : List Placed). slice_get l 2048) (sym behind)
          ∙ slice_get-drop (2048 * i) 2048 ys;
    }
  where
    ahead : (k : ℕ) → k < i → take 2048 (drop (2048 * k) xs) ≡ take 2048 (drop (2048 * k) (insert xs place slot))
    ahead k low =
        sym (ap (λ (l : List Placed). take 2048 l) (drop-insert (2048 * k) place xs slot (omega arith) within)
        ∙ insert-later 2048 (place - 2048 * k) (drop (2048 * k) xs) slot (omega arith) (let e = length-drop (2048 * k) xs in omega arith))

pub put-next :
    (xs : List Placed) (buckets : List (List Placed)) (i place : ℕ) (slot next : Placed) → IsPutUpto xs (insert xs place slot) buckets i (Some next)
    → place ≤ 2048 * i + 2048 → place ≤ length xs → i + 1 < length buckets
    → IsPutUpto xs (insert xs place slot) (set buckets (i + 1) (take 2048 (insert (get_or buckets (i + 1) []) 0 next))) (i + 1) (slice_get (insert (get_or buckets (i + 1) []) 0 next) 2048)
put-next xs buckets i place slot next h past within there =
    let at = 2048 * (i + 1) in
    let e : 2048 * i + 2048 ≡ at = omega arith in
    let ys = insert xs place slot in
    let rest = drop at xs in
    let now = take 2048 (insert (get_or buckets (i + 1) []) 0 next) in
    let found : slice_get ys at ≡ Some next = ap (slice_get ys) (sym e) ∙ sym h.over_is in
    let behind : drop at ys ≡ next ∷ rest = some-left ys at next found ∙ ap (λ (l : List Placed). next ∷ l) (drop-past_insert at place xs slot (omega arith) within) in
    let put = insert-front 2048 0 rest next (omega arith) in
    let bucket : get_or buckets (i + 1) [] ≡ take 2048 rest = h.back (i + 1) (omega arith) in
    let is_now : now ≡ take 2048 (drop at ys) = ap (λ (l : List Placed). take 2048 (insert l 0 next)) bucket ∙ put.0 ∙ ap (λ (l : List Placed). take 2048 l) (sym behind) in
    record {
      front = λ k upto. get-set buckets (i + 1) k now (take 2048 (drop (2048 * k) ys)) there
          (λ same. is_now ∙ ap (λ (n : ℕ). take 2048 (drop (2048 * n) ys)) (sym same))
          (λ apart. let low : k ≤ i = grind arith in h.front k low);
      back = λ k behind_it. get-set buckets (i + 1) k now (take 2048 (drop (2048 * k) xs)) there (λ same. absurd (omega arith)) (λ _. h.back k (omega arith));
      over_is =
          ap (λ (l : List Placed). slice_get (insert l 0 next) 2048) bucket ∙ put.1 ∙ ap (λ (l : List Placed). slice_get l 2048) (sym behind)
          ∙ slice_get-drop at 2048 ys;
    }

pub put-done : (xs : List Placed) (buckets : List (List Placed)) (i place : ℕ) (slot : Placed) → IsPutUpto xs (insert xs place slot) buckets i None → place ≤ length xs → AreBuckets (insert xs place slot) buckets
put-done xs buckets i place slot h within k =
    ⊎_elim
    (λ (low : k < i + 1). h.front k (omega arith))
    (λ (past : i + 1 ≤ k).
    let ys = insert xs place slot in
    let ended = none-left ys (2048 * i + 2048) (sym h.over_is) in
    let long = length-insert xs place slot within in
    let none : drop (2048 * k) xs ≡ [] = drop-past (2048 * k) xs (omega arith) in
    let none_more : drop (2048 * k) ys ≡ [] = drop-past (2048 * k) ys (omega arith) in
    h.back k (omega arith) ∙ ap (λ (l : List Placed). take 2048 l) (none ∙ sym none_more))
    (cases_lt k (i + 1))

-- what holds of each element still does where one is put in another's place
pub all-set : {X : Type 0} (P : X → Type 0) (xs : List X) (i : ℕ) (x : X) → AllByRecursion P xs → P x → AllByRecursion P (set xs i x)
all-set P [] i x h here = tt
all-set P (y ∷ xs) zero x h here = (here, h.1)
all-set P (y ∷ xs) (suc i) x h here = (h.0, all-set P xs i x h.1 here)

-- buckets without a slot
pub none-joined : {X : Type 0} (f : X → List Placed) (buckets : List X) → AllByRecursion (λ b. f b ≡ []) buckets → joined (map f buckets) ≡ []
unfolding joined
none-joined f [] h = refl
none-joined f (b ∷ buckets) h = rw (h.0, none-joined f buckets h.1) refl

pub none-cut : {X : Type 0} (f : X → List Placed) (buckets : List X) → AllByRecursion (λ b. f b ≡ []) buckets → AreBuckets [] (map f buckets)
none-cut f buckets h i = each f buckets i h ∙ sym (ap (λ (l : List Placed). take 2048 l) (drop-past (2048 * i) [] (omega arith)))
  where
    each : {X : Type 0} (f : X → List Placed) (buckets : List X) (i : ℕ) → AllByRecursion (λ b. f b ≡ []) buckets → get_or (map f buckets) i [] ≡ []
    each f [] zero h = refl
    each f [] (suc i) h = refl
    each f (b ∷ buckets) zero h = h.0
    each f (b ∷ buckets) (suc i) h = each f buckets i h.1
