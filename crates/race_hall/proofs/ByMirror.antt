-- Lists that fall into a piece for each mirror.
use Rattle.std.proofs.Common.{◌≡◌, ℕ, zero, suc, ◌+◌, ◌*◌, ◌≤◌, List, [], ◌∷◌, ◌++◌, map, length, refl, ap, sym, ◌∙◌, subst, append_assoc, append-nil, arith}
use Rattle.std.specs.Prelude.{Some, slice_get}
use Rattle.std.specs.List.{AllByRecursion, AllZip}
use Rattle.std.proofs.Math.ListN.{length-append}
use Rattle.game_trait.proofs.Lists.{all-append}
use Rattle.race_hall.specs.Race.{count_from}
use Rattle.race_hall.specs.Crews.{ByMirror}
use Rattle.race_hall.proofs.Zips.{zip-parted}

-- what stands behind a front
seam : {Y Z : Type 0} (f : Y → Z) (front : List Y) (y : Y) (back : List Y) → slice_get (map f (front ++ y ∷ back)) (length front) ≡ Some (f y)
seam f [] y back = refl
seam f (x ∷ front) y back = seam f front y back

module _ {X Y Z : Type 0} where
  -- one more mirror
  pub by_mirror-more :
      (Is : ℕ → Y → Z → List X → Type 0) (k : ℕ) (ys : List Y) (zs : List Z) (xs more : List X) (y : Y) (z : Z)
      → ByMirror Is k ys zs xs → Is (k + length ys) y z more → ByMirror Is k (ys ++ y ∷ []) (zs ++ z ∷ []) (xs ++ more)
  unfolding ByMirror
  by_mirror-more Is k [] [] xs more y z h one =
      let at : k + 0 ≡ k = omega arith in
      (more, [], ap (λ (l : List X). l ++ more) h ∙ sym (append-nil more), subst (λ (i : ℕ). Is i y z more) at one, refl)
  by_mirror-more Is k [] (w ∷ zs) xs more y z h one = absurd h
  by_mirror-more Is k (v ∷ ys) [] xs more y z h one = absurd h
  by_mirror-more Is k (v ∷ ys) (w ∷ zs) xs more y z h one =
      let at : k + suc (length ys) ≡ k + 1 + length ys = omega arith in (
        h.0,
        h.1 ++ more,
        ap (λ (l : List X). l ++ more) h.2 ∙ append_assoc h.0 h.1 more,
        h.3,
        by_mirror-more Is (k + 1) ys zs h.1 more y z h.4 (subst (λ (i : ℕ). Is i y z more) at one),
      )

  -- what holds of each element, where it holds of each mirror's
  pub by_mirror-all :
      {N : Type 0} (Is : ℕ → Y → Z → List X → Type 0) (C : X → Type 0) (name : Y → N) (whole front ys : List Y) (zs : List Z) (xs : List X) (k : ℕ)
      → ((i : ℕ) (y : Y) (z : Z) (piece : List X) → slice_get (map name whole) i ≡ Some (name y) → Is i y z piece → AllByRecursion C piece)
      → whole ≡ front ++ ys → k ≡ length front → ByMirror Is k ys zs xs → AllByRecursion C xs
  unfolding ByMirror
  by_mirror-all Is C name whole front [] [] xs k step parts at h = subst (AllByRecursion C) (sym h) tt
  by_mirror-all Is C name whole front [] (z ∷ zs) xs k step parts at h = absurd h
  by_mirror-all Is C name whole front (y ∷ ys) [] xs k step parts at h = absurd h
  by_mirror-all Is C name whole front (y ∷ ys) (z ∷ zs) xs k step parts at h =
      subst (AllByRecursion C) (sym h.2)
      (all-append C h.0 h.1
      (step k y z h.0 (subst (λ (i : ℕ). slice_get (map name whole) i ≡ Some (name y)) (sym at)
      (subst (λ (l : List Y). slice_get (map name l) (length front) ≡ Some (name y)) (sym parts)
      (seam name front y ys))) h.3)
      (by_mirror-all Is C name whole (front ++ y ∷ []) ys zs h.1 (k + 1) step
      (parts ∙ sym (append_assoc front (y ∷ []) ys))
      (ap (λ (n : ℕ). n + 1) at ∙ longer front)
      h.4))
    where
      longer : (l : List Y) → length l + 1 ≡ length (l ++ y ∷ [])
      longer l = (let a = length-append l (y ∷ []) in omega arith)

  -- and what goes with the pieces falls into pieces alike
  pub by_mirror-zip :
      {V : Type 0} (P : ℕ → Y → Z → List X → Type 0) (Q : ℕ → Y → Z → List V → Type 0) (R : X → V → Type 0) (k : ℕ) (ys : List Y) (zs : List Z) (xs : List X) (vs : List V)
      → ((i : ℕ) (y : Y) (z : Z) (piece : List X) (other : List V) → P i y z piece → AllZip R piece other → Q i y z other)
      → ByMirror P k ys zs xs → AllZip R xs vs → ByMirror Q k ys zs vs
  unfolding ByMirror
  by_mirror-zip P Q R k [] [] xs [] step h zip = refl
  by_mirror-zip P Q R k [] [] xs (v ∷ vs) step h zip = absurd (subst (λ (l : List X). AllZip R l (v ∷ vs)) h zip)
  by_mirror-zip P Q R k [] (z ∷ zs) xs vs step h zip = absurd h
  by_mirror-zip P Q R k (y ∷ ys) [] xs vs step h zip = absurd h
  by_mirror-zip P Q R k (y ∷ ys) (z ∷ zs) xs vs step h zip =
      let p = zip-parted R h.0 h.1 vs (subst (λ (l : List X). AllZip R l vs) h.2 zip) in
      (p.front, p.back, p.parts, step k y z h.0 p.front h.3 p.first, by_mirror-zip P Q R (k + 1) ys zs h.1 p.back step h.4 p.then)

-- there are as many of both
pub by_mirror-long : {X Y Z : Type 0} (Is : ℕ → Y → Z → List X → Type 0) (k : ℕ) (ys : List Y) (zs : List Z) (xs : List X) → ByMirror Is k ys zs xs → length ys ≡ length zs
unfolding ByMirror
by_mirror-long Is k [] [] xs h = refl
by_mirror-long Is k [] (z ∷ zs) xs h = absurd h
by_mirror-long Is k (y ∷ ys) [] xs h = absurd h
by_mirror-long Is k (y ∷ ys) (z ∷ zs) xs h = ap suc (by_mirror-long Is (k + 1) ys zs h.1 h.4)

-- no mirror yet
pub by_mirror-none : {X Y Z : Type 0} (Is : ℕ → Y → Z → List X → Type 0) (ys : List Y) (xs : List X) → ys ≡ [] → xs ≡ [] → ByMirror Is 0 ys [] xs
unfolding ByMirror
by_mirror-none Is ys xs none empty = subst (λ l. ByMirror Is 0 l [] xs) (sym none) empty

-- one mirror more, whatever the lists are called
pub by_mirror-pushed : {X Y Z : Type 0} (Is : ℕ → Y → Z → List X → Type 0) (ys ys_now : List Y) (zs : List Z) (xs xs_now more : List X) (y : Y) (z : Z)
    → ys_now ≡ ys ++ y ∷ [] → xs_now ≡ xs ++ more → ByMirror Is 0 ys zs xs → Is (0 + length ys) y z more → ByMirror Is 0 ys_now (zs ++ z ∷ []) xs_now
by_mirror-pushed {X} {Y} Is ys ys_now zs xs xs_now more y z pushed parts h one =
    subst (λ (l : List Y). ByMirror Is 0 l (zs ++ z ∷ []) xs_now) (sym pushed)
    (subst (λ (l : List X). ByMirror Is 0 (ys ++ y ∷ []) (zs ++ z ∷ []) l) (sym parts)
    (by_mirror-more Is 0 ys zs xs more y z h one))

-- all of them
pub by_mirror-whole : {X Y Z : Type 0} (Is : ℕ → Y → Z → List X → Type 0) (ys : List Y) (whole zs rest : List Z)
    (xs : List X) → whole ≡ zs ++ rest → rest ≡ [] → ByMirror Is 0 ys zs xs → ByMirror Is 0 ys whole xs
by_mirror-whole {X} {Y} {Z} Is ys whole zs rest xs parts none h = subst (λ (l : List Z). ByMirror Is 0 ys l xs) (sym (parts ∙ ap (λ (l : List Z). zs ++ l) none ∙ append-nil zs)) h

-- what else is known of each mirror's feeder
pub by_mirror-with : {X Y Z : Type 0} (P : ℕ → Z → Type 0) (Is : ℕ → Y → Z → List X → Type 0) (k n : ℕ) (ys : List Y) (zs : List Z) (xs : List X)
    → AllZip P (count_from k n) zs → ByMirror Is k ys zs xs → ByMirror (λ i y z piece. P i z × Is i y z piece) k ys zs xs
unfolding ByMirror count_from
by_mirror-with P Is k n [] [] xs a h = h
by_mirror-with P Is k n [] (z ∷ zs) xs a h = absurd h
by_mirror-with P Is k n (y ∷ ys) [] xs a h = absurd h
by_mirror-with P Is k zero (y ∷ ys) (z ∷ zs) xs a h = absurd a
by_mirror-with P Is k (suc n) (y ∷ ys) (z ∷ zs) xs a h = (h.0, h.1, h.2, (a.0, h.3), by_mirror-with P Is (k + 1) n ys zs h.1 a.1 h.4)

-- how many jobs there are
pub by_mirror-few : {X Y Z : Type 0} (Is : ℕ → Y → Z → List X → Type 0) (k : ℕ) (ys : List Y) (zs : List Z) (xs : List X)
    → ((i : ℕ) (y : Y) (z : Z) (piece : List X) → Is i y z piece → length piece ≤ 9) → ByMirror Is k ys zs xs → length xs ≤ 9 * length ys
unfolding ByMirror
by_mirror-few {X} Is k [] [] xs step h = (let a = ap (λ (l : List X). length l) h in omega arith)
by_mirror-few Is k [] (z ∷ zs) xs step h = absurd h
by_mirror-few Is k (y ∷ ys) [] xs step h = absurd h
by_mirror-few {X} Is k (y ∷ ys) (z ∷ zs) xs step h =
    (let a = ap (λ (l : List X). length l) h.2 in let b = length-append h.0 h.1 in let d = step k y z h.0 h.3 in let e = by_mirror-few Is (k + 1) ys zs h.1 step h.4 in omega arith)
