-- Lists that go together, place by place.
use Rattle.std.proofs.Common.{◌≡◌, List, [], ◌∷◌, ◌++◌, map, refl, ap}
use Rattle.std.specs.List.{AllByRecursion, AllZip}
pub use Rattle.link_mesh.proofs.Zips.{zip-through, zip-get}

-- lists that go together, and the second of them in two parts as the first is
pub record Parted {X Y : Type 0} (R : X → Y → Type 0) (xs more : List X) (ys : List Y) : Type 0 where
  pub front : List Y
  pub back : List Y
  pub parts : ys ≡ front ++ back
  pub first : AllZip R xs front
  pub then : AllZip R more back

pub zip-parted : {X Y : Type 0} (R : X → Y → Type 0) (xs more : List X) (ys : List Y) → AllZip R (xs ++ more) ys → Parted R xs more ys
zip-parted R [] more ys h = record { front = []; back = ys; parts = refl; first = tt; then = h }
zip-parted R (x ∷ xs) more [] h = absurd h
zip-parted {X} {Y} R (x ∷ xs) more (y ∷ ys) h =
    let p = zip-parted R xs more ys h.1 in
    record { front = y ∷ p.front; back = p.back; parts = ap (λ (l : List Y). y ∷ l) p.parts; first = (h.0, p.first); then = p.then }

-- what holds of each of the first list holds of each of the second
pub zip-all : {X Y : Type 0} (R : X → Y → Type 0) (C : Y → Type 0) (xs : List X) (ys : List Y) → ((x : X) (y : Y) → R x y → C y) → AllZip R xs ys → AllByRecursion C ys
zip-all R C [] [] step h = tt
zip-all R C [] (y ∷ ys) step h = absurd h
zip-all R C (x ∷ xs) [] step h = absurd h
zip-all R C (x ∷ xs) (y ∷ ys) step h = (step x y h.0, zip-all R C xs ys step h.1)

-- what holds of what goes with each, and of each
pub zip-with_all : {X Y : Type 0} (A : X → Type 0) (P Q : X → Y → Type 0) → ((x : X) (y : Y) → A x → P x y → Q x y)
    → (xs : List X) (ys : List Y) → AllByRecursion A xs → AllZip P xs ys → AllZip Q xs ys
zip-with_all A P Q step [] [] a h = tt
zip-with_all A P Q step [] (y ∷ ys) a h = absurd h
zip-with_all A P Q step (x ∷ xs) [] a h = absurd h
zip-with_all A P Q step (x ∷ xs) (y ∷ ys) a h = (step x y a.0 h.0, zip-with_all A P Q step xs ys a.1 h.1)

-- what is a function's value each is what the function makes of the list
pub zip-is_map : {X Y : Type 0} (f : X → Y) (xs : List X) (ys : List Y) → AllZip (λ x y. y ≡ f x) xs ys → ys ≡ map f xs
zip-is_map f [] [] h = refl
zip-is_map f [] (y ∷ ys) h = absurd h
zip-is_map f (x ∷ xs) [] h = absurd h
zip-is_map f (x ∷ xs) (y ∷ ys) h = (λ i. h.0 i ∷ zip-is_map f xs ys h.1 i)

-- the other way round
pub zip-turned : {X Y : Type 0} (R : X → Y → Type 0) (xs : List X) (ys : List Y) → AllZip R xs ys → AllZip (λ y x. R x y) ys xs
zip-turned R [] [] h = tt
zip-turned R [] (y ∷ ys) h = absurd h
zip-turned R (x ∷ xs) [] h = absurd h
zip-turned R (x ∷ xs) (y ∷ ys) h = (h.0, zip-turned R xs ys h.1)
