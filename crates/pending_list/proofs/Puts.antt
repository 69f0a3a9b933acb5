-- One put into an order, bucket by bucket.
use Rattle.std.proofs.Common.{◌≡◌, sym, ap, ◌∙◌, ℕ, ◌+◌, ◌-◌, ◌*◌, ◌/◌, ◌%◌, ◌≤◌, ◌<◌, List, [], take, drop, length, get_or, set, map, min, subst, arith}
use Rattle.std.proofs.Math.Nat.{div-add-mod, mod-lt}
use Rattle.std.proofs.lemmas.List.{length-map, length-take, get_or-map, map-set}
use Rattle.std.proofs.lemmas.List.Edits.{length-insert}
use Rattle.std.proofs.lemmas.Option.{slice_get_within}
use Rattle.std.specs.Prelude.{Option, Some, slice_get}
use Rattle.std.specs.List.{insert}
use Rattle.pending_list.specs.declared.keyed.Placed.{Placed}
use Rattle.pending_list.specs.Sized.{AreBuckets}
use Rattle.pending_list.proofs.Cut.{length-drop, IsPutUpto, put-first, put-next}

-- what a bucket holds is what stands in it
held : {D : Type 0} (f : D → List Placed) (buckets : List D) (i : ℕ) (bucket : D) → i < length buckets → bucket ≡ get_or buckets i bucket → get_or (map f buckets) i [] ≡ f bucket
held f buckets i bucket there here = get_or-map f buckets i bucket [] there ∙ ap f (sym here)

-- so many of an order stand in a bucket
long-bucket : (order : List Placed) (i : ℕ) → length (take 2048 (drop (2048 * i) order)) ≡ min 2048 (length order - 2048 * i)
long-bucket order i = length-take 2048 (drop (2048 * i) order) ∙ ap (λ (n : ℕ). min 2048 n) (length-drop (2048 * i) order)

module _ {D : Type 0} (f : D → List Placed) (buckets : List D) (order : List Placed) (place : ℕ) (x : Placed) where
  module _ (cut : AreBuckets order (map f buckets)) (within : place ≤ length order) (room : length order < 2048 * length buckets) where
    pub first-there : place / 2048 < length buckets
    first-there = (let parts = div-add-mod place 2048 in omega arith)

    pub first-room : (bucket : D) → bucket ≡ get_or buckets (place / 2048) bucket → (length (f bucket) ≤ 2048) × (place % 2048 ≤ length (f bucket))
    first-room bucket here =
        let parts = div-add-mod place 2048 in
        let low : place % 2048 < 2048 = mod-lt place (omega arith) in
        let long = ap (λ (l : List Placed). length l) (sym (held f buckets (place / 2048) bucket first-there here) ∙ cut (place / 2048)) ∙ long-bucket order (place / 2048) in
        (grind arith, grind arith)

    pub first-put :
        (bucket now : D) (over : Option Placed) → bucket ≡ get_or buckets (place / 2048) bucket
        → f now ≡ take 2048 (insert (f bucket) (place % 2048) x) → over ≡ slice_get (insert (f bucket) (place % 2048) x) 2048
        → IsPutUpto order (insert order place x) (map f (set buckets (place / 2048) now)) (place / 2048) over
    first-put bucket now over here items over_is =
        let parts = div-add-mod place 2048 in
        let many = length-map buckets f in
        let there = first-there in
        let is = held f buckets (place / 2048) bucket first-there here in
        let put = put-first order (map f buckets) (place / 2048) (place % 2048) place x cut (sym parts) (mod-lt place (omega arith)) within (omega arith) in
        rw (map-set f buckets (place / 2048) now, items, over_is, ← is) put

  module _ (i : ℕ) (over : Option Placed) (next : Placed) (upto : IsPutUpto order (insert order place x) (map f buckets) i over) (is_next : over ≡ Some next)
      (past : place ≤ 2048 * i + 2048) (within : place ≤ length order) (room : length order < 2048 * length buckets) where
    pub next-there : i + 1 < length buckets
    next-there =
        let found = slice_get_within (insert order place x) (2048 * i + 2048) next (sym upto.over_is ∙ is_next) in
        let long = length-insert order place x within in
        omega arith

    pub next-room : (bucket : D) → bucket ≡ get_or buckets (i + 1) bucket → length (f bucket) ≤ 2048
    next-room bucket here =
        let long = ap (λ (l : List Placed). length l) (sym (held f buckets (i + 1) bucket next-there here) ∙ upto.back (i + 1) (omega arith)) ∙ long-bucket order (i + 1) in
        grind arith

    pub next-put :
        (bucket now : D) (more : Option Placed) → bucket ≡ get_or buckets (i + 1) bucket
        → f now ≡ take 2048 (insert (f bucket) 0 next) → more ≡ slice_get (insert (f bucket) 0 next) 2048
        → IsPutUpto order (insert order place x) (map f (set buckets (i + 1) now)) (i + 1) more
    next-put bucket now more here items more_is =
        let many = length-map buckets f in
        let there = next-there in
        let is = held f buckets (i + 1) bucket next-there here in
        let put = put-next order (map f buckets) i place x next (subst (λ o. IsPutUpto order (insert order place x) (map f buckets) i o) is_next upto) past within (omega arith) in
        rw (map-set f buckets (i + 1) now, items, more_is, ← is) put
