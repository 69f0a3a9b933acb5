-- Lists of slots, seen as functions of the slot.
use Rattle.std.proofs.Common.{◌≡◌, ℕ, zero, suc, ◌+◌, ◌<◌, ◌≤◌, Bool, true, false, cond, nat_lt, max, ◌==◌, List, [], ◌∷◌, ◌++◌, map, length, get_or, replicate, take, refl, ap, sym, ◌∙◌, arith}
use Rattle.std.specs.Prelude.{slice_set}
use Rattle.std.specs.List.{range_with_len}
use Rattle.std.specs.Int.{from_bool}
use Rattle.std.proofs.lemmas.Bool.{eqb-true, eqb-false}
use Rattle.std.proofs.lemmas.Bool.Decides.{nat_tests}
use Rattle.std.proofs.lemmas.List.{get_or-set_same, get_or-set_other, get_or_past, take_more}
use Rattle.std.proofs.lemmas.List.FromFn.{fill_by_all}
use Rattle.game_trait.specs.Count.{times}
use Rattle.peer_model.specs.Peer.{put}

-- what one slot has is replaced
pub set-at : {X : Type 0} (xs : List X) (i j : ℕ) (x d : X) → i < length xs → get_or (slice_set xs i x) j d ≡ cond (j == i) x (get_or xs j d)
set-at xs i j x d there =
    elim (j == i) as (λ b. (j == i) ≡ b → get_or (slice_set xs i x) j d ≡ cond b x (get_or xs j d)) [
      | true ↦ λ e. ap (λ (k : ℕ). get_or (slice_set xs i x) k d) (eqb-true j i e) ∙ get_or-set_same xs i x d there
      | false ↦ λ e. get_or-set_other xs i j x d (eqb-false j i e)
    ]
    refl

pub at-cond : {A X : Type 0} (f : A → X) (b : Bool) (x y : A) → f (cond b x y) ≡ cond b (f x) (f y)
at-cond f true x y = refl
at-cond f false x y = refl

-- what is read of each slot, where that of one is replaced
pub field-put : {A X : Type 0} (f : A → X) (xs : List A) (i j : ℕ) (z d : A) → i < length xs → f (get_or (slice_set xs i z) j d) ≡ put i (f z) (λ k. f (get_or xs k d)) j
field-put f xs i j z d there = ap f (set-at xs i j z d there) ∙ at-cond f (j == i) z (get_or xs j d)

-- and where it is the same
pub field-kept : {A X : Type 0} (f : A → X) (xs : List A) (i j : ℕ) (z d : A) → i < length xs → f z ≡ f (get_or xs i d) → f (get_or (slice_set xs i z) j d) ≡ f (get_or xs j d)
field-kept f xs i j z d there same =
    elim (j == i) as (λ b. (j == i) ≡ b → f (get_or (slice_set xs i z) j d) ≡ f (get_or xs j d)) [
      | true ↦ λ e. ap (λ (k : ℕ). f (get_or (slice_set xs i z) k d)) (eqb-true j i e) ∙ ap f (get_or-set_same xs i z d there) ∙ same ∙ ap (λ (k : ℕ). f (get_or xs k d)) (sym (eqb-true j i e))
      | false ↦ λ e. ap f (get_or-set_other xs i j z d (eqb-false j i e))
    ]
    refl

-- all slots are read alike, and so is one that isn't there
pub alike : {A X : Type 0} (f : A → X) (n j : ℕ) (x d : A) → f x ≡ f d → f (get_or (replicate n x) j d) ≡ f d
alike f zero j x d same = refl
alike f (suc n) zero x d same = same
alike f (suc n) (suc j) x d same = alike f n j x d same

-- each slot is changed alike, and so is one that isn't there
pub map-at : {A B : Type 0} (f : A → B) (xs : List A) (j : ℕ) (d : A) (e : B) → f d ≡ e → get_or (map f xs) j e ≡ f (get_or xs j d)
map-at f [] j d e same = sym same
map-at f (x ∷ xs) zero d e same = refl
map-at f (x ∷ xs) (suc j) d e same = map-at f xs j d e same

-- a list is what is read of it
pub list-read : {A : Type 0} (xs : List A) (d : A) → map (λ j. get_or xs j d) (range_with_len 0 (length xs)) ≡ xs
list-read xs d = sym (fill_by_all (λ j. get_or xs j d) xs (length xs) d refl (λ k h. refl))

map-map : {A B C : Type 0} (g : B → C) (f : A → B) (xs : List A) → map g (map f xs) ≡ map (λ x. g (f x)) xs
map-map g f [] = refl
map-map g f (x ∷ xs) = ap (λ (l : List _). g (f x) ∷ l) (map-map g f xs)

pub map-read : {A B : Type 0} (f : A → B) (xs : List A) (d : A) → map (λ j. f (get_or xs j d)) (range_with_len 0 (length xs)) ≡ map f xs
map-read f xs d = sym (map-map f (λ j. get_or xs j d) (range_with_len 0 (length xs))) ∙ ap (map f) (list-read xs d)

times-map : {A B : Type 0} (p : B → Bool) (f : A → B) (xs : List A) → times p (map f xs) ≡ times (λ x. p (f x)) xs
unfolding times
times-map p f [] = refl
times-map p f (x ∷ xs) = ap (λ (n : ℕ). cond (p (f x)) 1 0 + n) (times-map p f xs)

-- how many slots pass a test
pub times-read : {A : Type 0} (p : A → Bool) (xs : List A) (d : A) → times (λ j. p (get_or xs j d)) (range_with_len 0 (length xs)) ≡ times p xs
times-read p xs d = sym (times-map p (λ j. get_or xs j d) (range_with_len 0 (length xs))) ∙ ap (times p) (list-read xs d)

times-append : {X : Type 0} (p : X → Bool) (a b : List X) → times p (a ++ b) ≡ times p a + times p b
unfolding times
times-append p [] b = omega arith
times-append p (x ∷ a) b = omega (arith, times-append p a b)

times-one : {X : Type 0} (p : X → Bool) (x : X) → times p (x ∷ []) ≡ cond (p x) 1 0
unfolding times
times-one p x = omega arith

pub times-none : {X : Type 0} (p : X → Bool) → times p [] ≡ 0
unfolding times
times-none p = refl

-- one more of them
pub times-more : {X : Type 0} (p : X → Bool) (xs : List X) (i : ℕ) (d : X) → i < length xs → times p (take (i + 1) xs) ≡ times p (take i xs) + cond (p (get_or xs i d)) 1 0
times-more p xs i d there =
    ap (times p) (take_more xs i d there) ∙ times-append p (take i xs) (get_or xs i d ∷ [])
    ∙ ap (λ (n : ℕ). times p (take i xs) + n) (times-one p (get_or xs i d))

-- ---- counts are raised, one after another

abbrev pub raised : List ℕ → List ℕ → ℕ → ℕ → ℕ
raised old have i k = cond (nat_lt k i) (max (get_or old k 0) (get_or have k 0)) (get_or old k 0)

pub raise-first : (old have : List ℕ) (k : ℕ) → get_or old k 0 ≡ raised old have 0 k
raise-first old have k = grind (arith, nat_tests)

pub raise-step : (old have now : List ℕ) (i n k : ℕ) → i < length now → ((j : ℕ) → get_or now j 0 ≡ raised old have i j)
    → n ≡ max (get_or now i 0) (get_or have i 0) → get_or (slice_set now i n) k 0 ≡ raised old have (i + 1) k
raise-step old have now i n k there so is =
    set-at now i k n 0 there
    ∙ (elim (k == i) as (λ b. (k == i) ≡ b → cond b n (get_or now k 0) ≡ raised old have (i + 1) k) [
      | true ↦ λ e. (let same : k ≡ i = eqb-true k i e in let h = so i in
          let below : get_or now i 0 ≡ get_or old i 0 = grind (arith, nat_tests, h) in
          is ∙ ap (λ (m : ℕ). max m (get_or have i 0)) below ∙ (let lt : nat_lt i (i + 1) ≡ true = grind (arith, nat_tests) in
          sym (ap (λ (b : Bool). cond b (max (get_or old i 0) (get_or have i 0)) (get_or old i 0)) lt)) ∙ ap (λ (m : ℕ). raised old have (i + 1) m) (sym same))
      | false ↦ λ e. (let other = eqb-false k i e in
          let lt : nat_lt k i ≡ nat_lt k (i + 1) = grind (arith, nat_tests, other) in
          so k ∙ ap (λ (b : Bool). cond b (max (get_or old k 0) (get_or have k 0)) (get_or old k 0)) lt)
    ]
    refl)

pub raise-last : (old have : List ℕ) (i k : ℕ) → length have ≤ i → raised old have i k ≡ max (get_or old k 0) (get_or have k 0)
raise-last old have i k all =
    elim (nat_lt k i) as (λ b. nat_lt k i ≡ b → cond b (max (get_or old k 0) (get_or have k 0)) (get_or old k 0) ≡ max (get_or old k 0) (get_or have k 0)) [
      | true ↦ λ e. refl
      | false ↦ λ e. (let past : length have ≤ k = grind (arith, nat_tests, e) in let none = get_or_past have k 0 past in omega arith)
    ]
    refl

-- ---- a count

pub byte-is : (b : Bool) → from_bool b ≡ cond b 1 0
byte-is true = refl
byte-is false = refl

pub count-step : {A : Type 0} (p : A → Bool) (xs : List A) (i : ℕ) (d : A) (count r : ℕ) (b : Bool) → i < length xs
    → count ≡ times p (take i xs) → b ≡ p (get_or xs i d) → r ≡ from_bool b → count + r ≡ times p (take (i + 1) xs)
count-step p xs i d count r b there so is one =
    (λ k. so k + (one ∙ byte-is b ∙ ap (λ (v : Bool). cond v 1 0) is) k) ∙ sym (times-more p xs i d there)

pub byte-most : (b : Bool) → from_bool b ≤ 1
byte-most true = omega arith
byte-most false = omega arith
