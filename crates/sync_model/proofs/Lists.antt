-- What holds of each element, of a last element and of two lists side by side, through a map and through one change.
use Rattle.std.proofs.Common.{◌≡◌, ℕ, zero, suc, ◌⊎◌, Bool, false, List, [], ◌∷◌, ◌++◌, map, length, get_or, set, refl, ap, inl, inr}
use Rattle.std.specs.List.{AllByRecursion, AllZip, list_any}
use Rattle.std.proofs.lemmas.Bool.{or_parts}
use Rattle.sync_model.specs.Lists.{last_of}

pub all-map :
    {X Y : Type 0} (P : X → Type 0) (Q : Y → Type 0) (f : X → Y) → ((x : X) → P x → Q (f x))
    → (xs : List X) → AllByRecursion P xs → AllByRecursion Q (map f xs)
all-map P Q f step [] h = tt
all-map P Q f step (x ∷ xs) h = (step x h.0, all-map P Q f step xs h.1)

-- one element made another
pub all-set :
    {X : Type 0} (P : X → Type 0) (f : X → X) (d : X) → ((x : X) → P x → P (f x))
    → (xs : List X) (i : ℕ) → AllByRecursion P xs → AllByRecursion P (set xs i (f (get_or xs i d)))
all-set P f d step [] i h = tt
all-set P f d step (x ∷ xs) zero h = (step x h.0, h.1)
all-set P f d step (x ∷ xs) (suc i) h = (h.0, all-set P f d step xs i h.1)

-- one element replaced
pub all-put : {X : Type 0} (P : X → Type 0) (xs : List X) (i : ℕ) (x : X) → AllByRecursion P xs → P x → AllByRecursion P (set xs i x)
all-put P [] i x h here = tt
all-put P (y ∷ ys) zero x h here = (here, h.1)
all-put P (y ∷ ys) (suc i) x h here = (h.0, all-put P ys i x h.1 here)

-- no element of a front passes a test that none of the whole passes
pub none-front : {X : Type 0} (p : X → Bool) (xs ys : List X) → list_any p (xs ++ ys) ≡ false → list_any p xs ≡ false
none-front p [] ys h = refl
none-front p (x ∷ xs) ys h =
    let parts = or_parts (p x) (list_any p (xs ++ ys)) h in
    rw (parts.0, none-front p xs ys parts.1) refl

-- nor does the last
pub none-last : {X : Type 0} (p : X → Bool) (xs : List X) (x : X) → list_any p (xs ++ x ∷ []) ≡ false → p x ≡ false
none-last p [] x h = (or_parts (p x) false h).0
none-last p (y ∷ ys) x h = none-last p ys x (or_parts (p y) (list_any p (ys ++ x ∷ [])) h).1

pub last-map : {X Y : Type 0} (f : X → Y) (d : X) (xs : List X) → last_of (f d) (map f xs) ≡ f (last_of d xs)
unfolding last_of
last-map f d [] = refl
last-map f d (x ∷ xs) = last-map f x xs

-- one element made another: the last is made another, or stays
pub last-set :
    {X : Type 0} (f : X → X) (d e : X) (xs : List X) (i : ℕ)
    → (last_of e (set xs i (f (get_or xs i d))) ≡ f (last_of e xs)) ⊎ (last_of e (set xs i (f (get_or xs i d))) ≡ last_of e xs)
unfolding last_of
last-set f d e [] i = inr refl
last-set f d e (x ∷ []) zero = inl refl
last-set f d e (x ∷ []) (suc i) = inr refl
last-set f d e (x ∷ y ∷ ys) zero = inr refl
last-set f d e (x ∷ y ∷ ys) (suc i) = last-set f d x (y ∷ ys) i

pub zip-weaker :
    {X Y : Type 0} (P Q : X → Y → Type 0) → ((x : X) (y : Y) → P x y → Q x y)
    → (xs : List X) (ys : List Y) → AllZip P xs ys → AllZip Q xs ys
zip-weaker P Q step [] [] h = tt
zip-weaker P Q step [] (y ∷ ys) h = h
zip-weaker P Q step (x ∷ xs) [] h = h
zip-weaker P Q step (x ∷ xs) (y ∷ ys) h = (step x y h.0, zip-weaker P Q step xs ys h.1)

pub zip-to_map :
    {X Y Z : Type 0} (P : Z → Y → Type 0) (f : X → Z) (xs : List X) (ys : List Y)
    → AllZip (λ x y. P (f x) y) xs ys → AllZip P (map f xs) ys
zip-to_map P f [] [] h = tt
zip-to_map P f [] (y ∷ ys) h = h
zip-to_map P f (x ∷ xs) [] h = h
zip-to_map P f (x ∷ xs) (y ∷ ys) h = (h.0, zip-to_map P f xs ys h.1)

pub zip-from_map :
    {X Y Z : Type 0} (P : Z → Y → Type 0) (f : X → Z) (xs : List X) (ys : List Y)
    → AllZip P (map f xs) ys → AllZip (λ x y. P (f x) y) xs ys
zip-from_map P f [] [] h = tt
zip-from_map P f [] (y ∷ ys) h = h
zip-from_map P f (x ∷ xs) [] h = h
zip-from_map P f (x ∷ xs) (y ∷ ys) h = (h.0, zip-from_map P f xs ys h.1)

pub zip-set :
    {X Y : Type 0} (P : X → Y → Type 0) (xs : List X) (ys : List Y) (i : ℕ) (x : X) (e : Y)
    → AllZip P xs ys → P x (get_or ys i e) → AllZip P (set xs i x) ys
zip-set P [] [] i x e h here = tt
zip-set P [] (y ∷ ys) i x e h here = h
zip-set P (z ∷ xs) [] i x e h here = absurd h
zip-set P (z ∷ xs) (y ∷ ys) zero x e h here = (here, h.1)
zip-set P (z ∷ xs) (y ∷ ys) (suc i) x e h here = (h.0, zip-set P xs ys i x e h.1 here)

pub zip-length : {X Y : Type 0} (P : X → Y → Type 0) (xs : List X) (ys : List Y) → AllZip P xs ys → length xs ≡ length ys
zip-length P [] [] h = refl
zip-length P [] (y ∷ ys) h = absurd h
zip-length P (x ∷ xs) [] h = absurd h
zip-length P (x ∷ xs) (y ∷ ys) h = ap suc (zip-length P xs ys h.1)

-- the last of a list is at its last place
pub last_of-at : {X : Type 0} (x d : X) (xs : List X) → last_of x xs ≡ get_or (x ∷ xs) (length xs) d
unfolding last_of
last_of-at x d [] = refl
last_of-at x d (y ∷ ys) = last_of-at y d ys
