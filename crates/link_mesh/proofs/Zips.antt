-- Lists that go together, place by place: of three, of one beside itself, and where one element changes.
use Rattle.std.proofs.Common.{ℕ, zero, suc, ◌<◌, List, [], ◌∷◌, length, get_or, set, arith}
use Rattle.std.specs.List.{AllZip}
use Rattle.std.proofs.lemmas.List.Elements.{AllZip-get_or, length_all_zip}

-- three lists that go together
pub zip-through : {X Y Z : Type 0} (P : X → Y → Type 0) (R : Y → Z → Type 0) (Q : X → Z → Type 0) (xs : List X) (ys : List Y) (zs : List Z)
    → ((x : X) (y : Y) (z : Z) → P x y → R y z → Q x z) → AllZip P xs ys → AllZip R ys zs → AllZip Q xs zs
zip-through P R Q [] [] [] step h k = tt
zip-through P R Q [] [] (z ∷ zs) step h k = absurd k
zip-through P R Q [] (y ∷ ys) zs step h k = absurd h
zip-through P R Q (x ∷ xs) [] zs step h k = absurd h
zip-through P R Q (x ∷ xs) (y ∷ ys) [] step h k = absurd k
zip-through P R Q (x ∷ xs) (y ∷ ys) (z ∷ zs) step h k = (step x y z h.0 k.0, zip-through P R Q xs ys zs step h.1 k.1)

-- a list beside itself
pub zip-same : {X : Type 0} (R : X → X → Type 0) → ((x : X) → R x x) → (xs : List X) → AllZip R xs xs
zip-same R same [] = tt
zip-same R same (x ∷ xs) = (same x, zip-same R same xs)

-- one element changes
pub zip-change : {X : Type 0} (R : X → X → Type 0) → ((x y z : X) → R x y → R y z → R x z) → (xs ys : List X) (i : ℕ) (d y : X) → AllZip R xs ys → R (get_or ys i d) y → AllZip R xs (set ys i y)
zip-change R trans [] [] i d y h k = tt
zip-change R trans [] (b ∷ ys) i d y h k = absurd h
zip-change R trans (a ∷ xs) [] i d y h k = absurd h
zip-change R trans (a ∷ xs) (b ∷ ys) zero d y h k = (trans a b y h.0 k, h.1)
zip-change R trans (a ∷ xs) (b ∷ ys) (suc i) d y h k = (h.0, zip-change R trans xs ys i d y h.1 k)

-- the elements at a place
pub zip-get : {X : Type 0} (R : X → X → Type 0) (xs ys : List X) (i : ℕ) (d : X) → AllZip R xs ys → i < length ys → R (get_or xs i d) (get_or ys i d)
zip-get R xs ys i d h below = AllZip-get_or R xs ys i d d h (let long = length_all_zip R xs ys h in omega arith)
