-- Laws of lists: what holds of all items, of one among them, of items that differ.
use Rattle.std.proofs.Common.{◌≡◌, Bool, true, false, ◌||◌, List, [], ◌∷◌, ◌++◌, map, refl, ap}
use Rattle.std.specs.List.{AllByRecursion, IsDistinct, list_any, list_all}
use Rattle.std.proofs.lemmas.Bool.{or_parts, and_parts}

-- what holds of all holds of one among them
pub all_at : {A : Type 0} (P : A → Type 0) (front : List A) (a : A) (more : List A) → AllByRecursion P (front ++ a ∷ more) → P a
all_at P [] a more h = h.0
all_at P (x ∷ front) a more h = all_at P front a more h.1

pub all_push : {A : Type 0} (P : A → Type 0) (xs : List A) (a : A) → AllByRecursion P xs → P a → AllByRecursion P (xs ++ a ∷ [])
all_push P [] a h k = (k, tt)
all_push P (x ∷ xs) a h k = (h.0, all_push P xs a h.1 k)

pub all_map : {A B : Type 0} (P : B → Type 0) (f : A → B) (xs : List A) → AllByRecursion (λ a. P (f a)) xs → AllByRecursion P (map f xs)
all_map P f [] h = tt
all_map P f (x ∷ xs) h = (h.0, all_map P f xs h.1)

pub all_unmap : {A B : Type 0} (P : B → Type 0) (f : A → B) (xs : List A) → AllByRecursion P (map f xs) → AllByRecursion (λ a. P (f a)) xs
all_unmap P f [] h = tt
all_unmap P f (x ∷ xs) h = (h.0, all_unmap P f xs h.1)

pub all_to : {A : Type 0} (P Q : A → Type 0) → ((a : A) → P a → Q a) → (xs : List A) → AllByRecursion P xs → AllByRecursion Q xs
all_to P Q one [] h = tt
all_to P Q one (x ∷ xs) h = (one x h.0, all_to P Q one xs h.1)

-- one item more, which differs from each
pub distinct_push : {A : Type 0} (same : A → A → Bool) (xs : List A) (a : A) → IsDistinct same xs → list_any (λ x. same x a) xs ≡ false → IsDistinct same (xs ++ a ∷ [])
unfolding IsDistinct
distinct_push same [] a h new = (tt, tt)
distinct_push same (x ∷ xs) a h new =
    let parts = or_parts (same x a) (list_any (λ y. same y a) xs) new in
    (all_push (λ y. same x y ≡ false) xs a h.0 parts.0, distinct_push same xs a h.1 parts.1)

-- an item differs from each before it
pub distinct_at : {A : Type 0} (same : A → A → Bool) (front : List A) (a : A) (more : List A) → IsDistinct same (front ++ a ∷ more) → list_any (λ x. same x a) front ≡ false
unfolding IsDistinct
distinct_at same [] a more h = refl
distinct_at same (x ∷ front) a more h = rw (all_at (λ y. same x y ≡ false) front a more h.0, distinct_at same front a more h.1) refl

pub any_map : {A B : Type 0} (p : B → Bool) (f : A → B) (xs : List A) → list_any p (map f xs) ≡ list_any (λ a. p (f a)) xs
any_map p f [] = refl
any_map p f (x ∷ xs) = ap (λ b. p (f x) || b) (any_map p f xs)

or_assoc : (a b c : Bool) → (a || (b || c)) ≡ ((a || b) || c)
or_assoc true b c = refl
or_assoc false b c = refl

pub any_append : {A : Type 0} (p : A → Bool) (xs ys : List A) → list_any p (xs ++ ys) ≡ (list_any p xs || list_any p ys)
any_append p [] ys = refl
any_append p (x ∷ xs) ys = rw (any_append p xs ys) (or_assoc (p x) (list_any p xs) (list_any p ys))

pub list_all_of : {A : Type 0} (p : A → Bool) (xs : List A) → AllByRecursion (λ a. p a ≡ true) xs → list_all p xs ≡ true
list_all_of p [] h = refl
list_all_of p (x ∷ xs) h = rw (h.0, list_all_of p xs h.1) refl

pub of_list_all : {A : Type 0} (p : A → Bool) (xs : List A) → list_all p xs ≡ true → AllByRecursion (λ a. p a ≡ true) xs
of_list_all p [] h = tt
of_list_all p (x ∷ xs) h = let parts = and_parts (p x) (list_all p xs) h in (parts.0, of_list_all p xs parts.1)

pub all_append : {A : Type 0} (P : A → Type 0) (xs ys : List A) → AllByRecursion P xs → AllByRecursion P ys → AllByRecursion P (xs ++ ys)
all_append P [] ys h k = k
all_append P (x ∷ xs) ys h k = (h.0, all_append P xs ys h.1 k)
