-- A list that goes with another, of which each element is replaced in turn.
use Rattle.std.proofs.Math.ListN.{length-append}
use Rattle.std.proofs.Common.{◌≡◌, ℕ, ◌+◌, ◌<◌, ◌≤◌, List, [], ◌∷◌, ◌++◌, length, refl, ap, sym, ◌∙◌, subst, append_assoc, arith, append-nil}
use Rattle.std.specs.List.{AllByRecursion, AllZip}
use Rattle.std.proofs.lemmas.Slice.Zip.{AllZip-long}

-- one more on both sides
pub zip-push : {X Z : Type 0} (Q : X → Z → Type 0) (xs : List X) (zs : List Z) (x : X) (z : Z) → AllZip Q xs zs → Q x z → AllZip Q (xs ++ x ∷ []) (zs ++ z ∷ [])
zip-push Q [] [] x z h k = (k, tt)
zip-push Q [] (w ∷ zs) x z h k = absurd h
zip-push Q (y ∷ xs) [] x z h k = absurd h
zip-push Q (y ∷ xs) (w ∷ zs) x z h k = (h.0, zip-push Q xs zs x z h.1 k)

none-left : {X Y : Type 0} (R : X → Y → Type 0) (xs : List X) → AllZip R xs [] → xs ≡ []
none-left R [] h = refl
none-left R (x ∷ xs) h = absurd h

-- the next one goes with one of xs, of which all holds that holds of each
pub record Next {X Y : Type 0} (R : X → Y → Type 0) (C : X → Type 0) (y : Y) : Type 0 where
  pub with : X
  pub is : R with y
  pub can : C with

module _ {X Y Z : Type 0} where
  -- of the list ys that goes with xs, the first are replaced by `done`, and the rest is left
  pub record Passed (R : X → Y → Type 0) (Q : X → Z → Type 0) (xs : List X) (done : List Z) (rest : List Y) : Type 0 where
    pub front : List X
    pub back : List X
    pub parts : xs ≡ front ++ back
    pub went : AllZip Q front done
    pub left : AllZip R back rest

  pub passed-start : (R : X → Y → Type 0) (Q : X → Z → Type 0) (xs : List X) (ys : List Y) → AllZip R xs ys → Passed R Q xs [] ys
  passed-start R Q xs ys h = record { front = []; back = xs; parts = refl; went = tt; left = h }

  -- one more
  pub passed-more :
      (R : X → Y → Type 0) (Q : X → Z → Type 0) (xs : List X) (done now : List Z) (z : Z) (y : Y) (rest all : List Y)
      → now ≡ done ++ z ∷ [] → all ≡ y ∷ rest → ((x : X) → R x y → Q x z) → Passed R Q xs done all → Passed R Q xs now rest
  passed-more R Q xs done now z y rest all pushed is step p =
      subst (λ (l : List Z). Passed R Q xs l rest) (sym pushed)
      (cases p.back refl (subst (AllZip R p.back) is p.left))
    where
      cases : (back : List X) → p.back ≡ back → AllZip R back (y ∷ rest) → Passed R Q xs (done ++ z ∷ []) rest
      cases [] e h = absurd h
      cases (x ∷ back) e h =
          record {
            front = p.front ++ x ∷ [];
            back = back;
            parts = p.parts ∙ ap (λ (l : List X). p.front ++ l) e ∙ sym (append_assoc p.front (x ∷ []) back);
            went = zip-push Q p.front done x z p.went (step x h.0);
            left = h.1;
          }

  pub passed-next :
      (R : X → Y → Type 0) (Q : X → Z → Type 0) (C : X → Type 0) (xs : List X) (done : List Z) (y : Y) (rest all : List Y)
      → all ≡ y ∷ rest → AllByRecursion C xs → Passed R Q xs done all → Next R C y
  passed-next R Q C xs done y rest all is can p =
      cases p.front p.back (subst (AllByRecursion C) p.parts can) (subst (AllZip R p.back) is p.left)
    where
      cases : (front back : List X) → AllByRecursion C (front ++ back) → AllZip R back (y ∷ rest) → Next R C y
      cases [] [] k h = absurd h
      cases [] (x ∷ back) k h = record { with = x; is = h.0; can = k.0 }
      cases (w ∷ front) back k h = cases front back k.1 h

  -- and at the end
  pub passed-end : (R : X → Y → Type 0) (Q : X → Z → Type 0) (xs : List X) (done : List Z) (all : List Y) → all ≡ [] → Passed R Q xs done all → AllZip Q xs done
  passed-end R Q xs done all none p =
      let e = none-left R p.back (subst (AllZip R p.back) none p.left) in
      subst (λ (l : List X). AllZip Q l done) (sym (p.parts ∙ ap (λ (l : List X). p.front ++ l) e ∙ append-nil p.front)) p.went

  -- before any is replaced, whatever the lists are called
  pub passed-begin :
      (R : X → Y → Type 0) (Q : X → Z → Type 0) (xs : List X) (ys all : List Y) (done : List Z)
      → done ≡ [] → all ≡ ys → AllZip R xs ys → Passed R Q xs done all
  passed-begin R Q xs ys all done none same h =
      subst (λ (l : List Z). Passed R Q xs l all) (sym none) (subst (λ (l : List Y). Passed R Q xs [] l) (sym same) (passed-start R Q xs ys h))

-- a list of which some elements were gone through: there is room for one more, and of the next holds what holds of all
pub more-room :
    {X Y : Type 0} (R : X → Y → Type 0) (whole gone rest more : List X) (x : X) (made : List Y) (room : ℕ)
    → whole ≡ gone ++ rest → rest ≡ x ∷ more → AllZip R gone made → length whole ≤ room → length made < room
more-room R whole gone rest more x made room parts is zip low =
    (let a = ap (λ l. length l) parts in let b = ap (λ l. length l) is in let d = length-append gone rest in let e = AllZip-long R gone made zip in omega arith)

pub parts-more : {X : Type 0} (whole gone rest more : List X) (x : X) → whole ≡ gone ++ rest → rest ≡ x ∷ more → whole ≡ (gone ++ x ∷ []) ++ more
parts-more whole gone rest more x parts is = parts ∙ ap (λ l. gone ++ l) is ∙ sym (append_assoc gone (x ∷ []) more)

pub begun-more :
    {X Y : Type 0} (R : X → Y → Type 0) (gone : List X) (x : X) (made now : List Y) (y : Y) → now ≡ made ++ y ∷ [] → AllZip R gone made → R x y → AllZip R (gone ++ x ∷ []) now
begun-more R gone x made now y pushed zip here = subst (AllZip R (gone ++ x ∷ [])) (sym pushed) (zip-push R gone made x y zip here)

pub length-more : {X : Type 0} (gone : List X) (x : X) (n : ℕ) → n ≡ length gone → n + 1 ≡ length (gone ++ x ∷ [])
length-more gone x n e = (let a = length-append gone (x ∷ []) in omega arith)

-- all of them were gone through
pub whole-begun :
    {X Y : Type 0} (R : X → Y → Type 0) (tasks all gone rest : List X) (made : List Y) → all ≡ tasks → all ≡ gone ++ rest → rest ≡ [] → AllZip R gone made → AllZip R tasks made
whole-begun R tasks all gone rest made gives parts none zip =
    subst (λ l. AllZip R l made) (sym (append-nil gone) ∙ ap (λ l. gone ++ l) (sym none) ∙ sym parts ∙ gives) zip
