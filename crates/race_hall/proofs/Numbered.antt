-- Lists whose elements are right by their numbers.
use Rattle.std.proofs.Common.{◌≡◌, ℕ, zero, suc, ◌+◌, ◌-◌, ◌<◌, List, [], ◌∷◌, ◌++◌, length, get_or, refl, ap, sym, ◌∙◌, subst, arith}
use Rattle.std.specs.List.{AllByRecursion, AllZip}
use Rattle.race_hall.specs.Race.{count_from}

-- one number more
pub count-push : (i n : ℕ) → count_from i (suc n) ≡ count_from i n ++ (i + n) ∷ []
unfolding count_from
count-push i zero = ap (λ (k : ℕ). k ∷ []) (omega arith)
count-push i (suc n) = ap (λ (l : List ℕ). i ∷ l) (count-push (i + 1) n ∙ ap (λ (k : ℕ). count_from (i + 1) n ++ k ∷ []) (omega arith))

-- the element at a place
pub numbered-get : {X : Type 0} (P : ℕ → X → Type 0) (i n : ℕ) (xs : List X) (j : ℕ) (v : X) → AllZip P (count_from i n) xs → j < n → v ≡ get_or xs j v → P (i + j) v
unfolding count_from
numbered-get P i zero xs j v h below e = absurd (omega arith)
numbered-get P i (suc n) [] j v h below e = absurd h
numbered-get P i (suc n) (x ∷ xs) zero v h below e = (let a : i ≡ i + 0 = omega arith in subst (λ (k : ℕ). P k v) a (subst (P i) (sym e) h.0))
numbered-get P i (suc n) (x ∷ xs) (suc j) v h below e = (let a : i + 1 + j ≡ i + suc j = omega arith in subst (λ (k : ℕ). P k v) a (numbered-get P (i + 1) n xs j v h.1 (omega arith) e))

pub numbered-length : {X : Type 0} (P : ℕ → X → Type 0) (i n : ℕ) (xs : List X) → AllZip P (count_from i n) xs → length xs ≡ n
unfolding count_from
numbered-length P i zero [] h = refl
numbered-length P i zero (x ∷ xs) h = absurd h
numbered-length P i (suc n) [] h = absurd h
numbered-length P i (suc n) (x ∷ xs) h = ap suc (numbered-length P (i + 1) n xs h.1)

-- one more
pub numbered-push : {X : Type 0} (P : ℕ → X → Type 0) (i n : ℕ) (xs : List X) (x : X) → AllZip P (count_from i n) xs → P (i + n) x → AllZip P (count_from i (suc n)) (xs ++ x ∷ [])
unfolding count_from
numbered-push P i zero [] x h k = ((let a : i + 0 ≡ i = omega arith in subst (λ (j : ℕ). P j x) a k), tt)
numbered-push P i zero (y ∷ ys) x h k = absurd h
numbered-push P i (suc n) [] x h k = absurd h
numbered-push P i (suc n) (y ∷ ys) x h k = (h.0, numbered-push P (i + 1) n ys x h.1 (let a : i + suc n ≡ i + 1 + n = omega arith in subst (λ (j : ℕ). P j x) a k))

-- a list whose elements are right at each place
pub numbered-each : {X : Type 0} (P : ℕ → X → Type 0) (i : ℕ) (xs : List X) → ((j : ℕ) (x : X) → j < length xs → x ≡ get_or xs j x → P (i + j) x) → AllZip P (count_from i (length xs)) xs
unfolding count_from
numbered-each P i [] each = tt
numbered-each P i (x ∷ xs) each = (
  (let e : i + 0 ≡ i = omega arith in subst (λ (k : ℕ). P k x) e (each 0 x (omega arith) refl)),
  numbered-each P (i + 1) xs (λ j y below here. (let e : i + suc j ≡ i + 1 + j = omega arith in subst (λ (k : ℕ). P k y) e (each (suc j) y (omega arith) here))),
)

-- lists whose elements are right by their numbers
pub numbered-none : {X : Type 0} (P : ℕ → X → Type 0) (xs : List X) → xs ≡ [] → AllZip P (count_from 0 0) xs
unfolding count_from
numbered-none P xs none = subst (λ l. AllZip P [] l) (sym none) tt

pub numbered-more : {X : Type 0} (P : ℕ → X → Type 0) (n : ℕ) (xs now : List X) (x : X) → AllZip P (count_from 0 n) xs → now ≡ xs ++ x ∷ [] → P n x → AllZip P (count_from 0 (n + 1)) now
numbered-more P n xs now x h pushed one =
    let e : suc n ≡ n + 1 = omega arith in
    let at : n ≡ 0 + n = omega arith in
    subst (λ (k : ℕ). AllZip P (count_from 0 k) now) e
    (subst (λ l. AllZip P (count_from 0 (suc n)) l) (sym pushed) (numbered-push P 0 n xs x h (subst (λ (k : ℕ). P k x) at one)))

-- the first of them is taken off
pub numbered-off : {X : Type 0} (P : ℕ → X → Type 0) (i n : ℕ) (xs now : List X) (v : X) → AllZip P (count_from i n) xs
    → 0 < n → xs ≡ v ∷ now → P i v × AllZip P (count_from (i + 1) (n - 1)) now
unfolding count_from
numbered-off P i zero xs now v h some off = absurd (omega arith)
numbered-off P i (suc n) xs now v h some off =
    let both = subst (AllZip P (count_from i (suc n))) off h in
    let less : n ≡ suc n - 1 = omega arith in
    (both.0, subst (λ (k : ℕ). AllZip P (count_from (i + 1) k) now) less both.1)

-- lists whose elements go with their numbers in two ways, and in a third
pub numbered-both : {X : Type 0} (P Q R : ℕ → X → Type 0) (C : X → Type 0) (ks : List ℕ) (xs : List X)
    → ((i : ℕ) (x : X) → P i x → Q i x → C x → R i x) → AllZip P ks xs → AllZip Q ks xs → AllByRecursion C xs
    → AllZip R ks xs
numbered-both P Q R C [] [] step h k a = tt
numbered-both P Q R C [] (x ∷ xs) step h k a = absurd h
numbered-both P Q R C (i ∷ ks) [] step h k a = absurd h
numbered-both P Q R C (i ∷ ks) (x ∷ xs) step h k a = (step i x h.0 k.0 a.0, numbered-both P Q R C ks xs step h.1 k.1 a.1)

-- each with its number's bound
pub numbered-within : {X : Type 0} (P : ℕ → X → Type 0) (i n : ℕ) (xs : List X) → AllZip P (count_from i n) xs → AllZip (λ j x. (j < i + n) × P j x) (count_from i n) xs
unfolding count_from
numbered-within P i zero [] h = tt
numbered-within P i zero (x ∷ xs) h = absurd h
numbered-within P i (suc n) [] h = absurd h
numbered-within P i (suc n) (x ∷ xs) h =
    let at : i + 1 + n ≡ i + suc n = omega arith in
    ((omega arith, h.0), subst (λ (k : ℕ). AllZip (λ j x. (j < k) × P j x) (count_from (i + 1) n) xs) at (numbered-within P (i + 1) n xs h.1))

-- a mirror's feeder among the others
pub numbered-at : {X : Type 0} (P : ℕ → X → Type 0) (i n : ℕ) (whole gone rest more : List X) (x : X) → AllZip P (count_from i n) whole → whole ≡ gone ++ rest → rest ≡ x ∷ more
    → P (i + length gone) x × (length gone < n)
unfolding count_from
numbered-at {X} P i n whole gone rest more x h parts is = at i n gone (subst (λ l. AllZip P (count_from i n) l) (parts ∙ ap (λ l. gone ++ l) is) h)
  where
    at : (j k : ℕ) (front : List X) → AllZip P (count_from j k) (front ++ x ∷ more) → P (j + length front) x × (length front < k)
    at j zero [] g = absurd g
    at j zero (y ∷ front) g = absurd g
    at j (suc k) [] g = (let e : j ≡ j + 0 = omega arith in (subst (λ (z : ℕ). P z x) e g.0, omega arith))
    at j (suc k) (y ∷ front) g = (let r = at (j + 1) k front g.1 in
        let e : j + 1 + length front ≡ j + suc (length front) = omega arith in
        (subst (λ (z : ℕ). P z x) e r.0, (let low = r.1 in omega arith)))

-- what holds of those below a number
pub numbered-below : {X : Type 0} (P : ℕ → X → Type 0) (C : X → Type 0) (i n : ℕ) (xs : List X) → ((j : ℕ) (x : X) → j < i + n → P j x → C x) → AllZip P (count_from i n) xs → AllByRecursion C xs
unfolding count_from
numbered-below P C i zero [] step h = tt
numbered-below P C i zero (x ∷ xs) step h = absurd h
numbered-below P C i (suc n) [] step h = absurd h
numbered-below P C i (suc n) (x ∷ xs) step h = (step i x (omega arith) h.0, numbered-below P C (i + 1) n xs (λ j y low k. step j y (omega arith) k) h.1)
