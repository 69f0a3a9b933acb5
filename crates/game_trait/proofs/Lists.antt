-- What holds of each element of a list.
use Rattle.std.proofs.Common.{ℕ, zero, suc, ◌<◌, Bool, true, false, cond, List, [], ◌∷◌, ◌++◌, filter, map, length, take, get_or, arith}
use Rattle.std.specs.List.{AllByRecursion}

-- what holds of each element holds of each element that a filter keeps
pub all-filter : {X : Type 0} (P : X → Type 0) (p : X → Bool) (xs : List X) → AllByRecursion P xs → AllByRecursion P (filter p xs)
all-filter P p [] h = tt
all-filter P p (x ∷ xs) h =
    elim (p x) as (λ v. AllByRecursion P (cond v (x ∷ filter p xs) (filter p xs)))
    [ true ↦ (h.0, all-filter P p xs h.1) | false ↦ all-filter P p xs h.1 ]

-- what follows from a fact of each element holds of each element
pub all-weaker : {X : Type 0} (P Q : X → Type 0) (xs : List X) → ((x : X) → P x → Q x) → AllByRecursion P xs → AllByRecursion Q xs
all-weaker P Q [] f h = tt
all-weaker P Q (x ∷ xs) f h = (f x h.0, all-weaker P Q xs f h.1)

-- what holds of each element and of one more holds of all
pub all-push : {X : Type 0} (P : X → Type 0) (xs : List X) (x : X) → AllByRecursion P xs → P x → AllByRecursion P (xs ++ x ∷ [])
all-push P [] x h here = (here, tt)
all-push P (y ∷ ys) x h here = (h.0, all-push P ys x h.1 here)

-- what holds of each element holds at any place
pub all-at : {X : Type 0} (P : X → Type 0) (xs : List X) (k : ℕ) (d : X) → AllByRecursion P xs → k < length xs → P (get_or xs k d)
all-at P [] k d h within = absurd (omega arith)
all-at P (x ∷ xs) zero d h within = h.0
all-at P (x ∷ xs) (suc k) d h within = all-at P xs k d h.1 (omega arith)

-- what holds of two lists holds of both together
pub all-append :
    {X : Type 0} (P : X → Type 0) (xs ys : List X)
    → AllByRecursion P xs → AllByRecursion P ys → AllByRecursion P (xs ++ ys)
all-append P [] ys h k = k
all-append P (x ∷ xs) ys h k = (h.0, all-append P xs ys h.1 k)

-- what holds of two lists together holds of each
pub all-first :
    {X : Type 0} (P : X → Type 0) (xs ys : List X) → AllByRecursion P (xs ++ ys) → AllByRecursion P xs
all-first P [] ys h = tt
all-first P (x ∷ xs) ys h = (h.0, all-first P xs ys h.1)

pub all-second :
    {X : Type 0} (P : X → Type 0) (xs ys : List X) → AllByRecursion P (xs ++ ys) → AllByRecursion P ys
all-second P [] ys h = h
all-second P (x ∷ xs) ys h = all-second P xs ys h.1

-- what holds of each element holds of the first so many
pub all-take : {X : Type 0} (P : X → Type 0) (n : ℕ) (xs : List X) → AllByRecursion P xs → AllByRecursion P (take n xs)
all-take P zero xs h = tt
all-take P (suc n) [] h = tt
all-take P (suc n) (x ∷ xs) h = (h.0, all-take P n xs h.1)

-- what follows from two facts of each element holds of each element
pub all-both :
    {X : Type 0} (P Q R : X → Type 0) (xs : List X)
    → ((x : X) → P x → Q x → R x) → AllByRecursion P xs → AllByRecursion Q xs → AllByRecursion R xs
all-both P Q R [] f h k = tt
all-both P Q R (x ∷ xs) f h k = (f x h.0 k.0, all-both P Q R xs f h.1 k.1)

-- what holds of what a function makes of each element holds of each of the list that it makes
pub all-to_map :
    {X Y : Type 0} (P : Y → Type 0) (f : X → Y) (xs : List X)
    → AllByRecursion (λ x. P (f x)) xs → AllByRecursion P (map f xs)
all-to_map P f [] h = tt
all-to_map P f (x ∷ xs) h = (h.0, all-to_map P f xs h.1)

pub all-from_map :
    {X Y : Type 0} (P : Y → Type 0) (f : X → Y) (xs : List X)
    → AllByRecursion P (map f xs) → AllByRecursion (λ x. P (f x)) xs
all-from_map P f [] h = tt
all-from_map P f (x ∷ xs) h = (h.0, all-from_map P f xs h.1)
