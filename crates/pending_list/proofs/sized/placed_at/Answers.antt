use Rattle.std.proofs.Common.{◌≡◌, ◌∙◌, sym, ap, ℕ, ◌+◌, ◌*◌, ◌/◌, ◌%◌, ◌<◌, List, [], length, map, get_or, arith}
use Rattle.std.proofs.lemmas.List.{length-map, get_or-map}
use Rattle.std.proofs.Math.Nat.{div-add-mod, mod-lt}
use Rattle.pending_list.specs.declared.keyed.Placed.{Placed}
use Rattle.pending_list.specs.Sized.{joined, AreBuckets}
use Rattle.pending_list.proofs.Cut.{bucket-at}
use Rattle.pending_list.proofs.sized.placed_at.Goals as goal

module _ {D : Type 0} (f : D → List Placed) (buckets : List D) (order : List Placed) (place : ℕ) (cut : AreBuckets order (map f buckets)) (there : place < length order) where
  at : (d : Placed) → (place / 2048 < length (map f buckets))
      × ((place % 2048 < length (get_or (map f buckets) (place / 2048) [])) × (get_or (get_or (map f buckets) (place / 2048) []) (place % 2048) d ≡ get_or order (2048 * (place / 2048) + place % 2048) d))
  at d =
      let parts = div-add-mod place 2048 in
      bucket-at order (map f buckets) (place / 2048) (place % 2048) d cut (mod-lt place (omega arith)) (omega arith)

  -- where a place of the order is in buckets
  in-buckets : place / 2048 < length buckets
  in-buckets = (let many = length-map buckets f in let a = (at (record { time = 0; slot = 0 })).0 in omega arith)

  in-bucket : (bucket : D) (d : Placed) → bucket ≡ get_or buckets (place / 2048) bucket → (place % 2048 < length (f bucket)) × (get_or (f bucket) (place % 2048) d ≡ get_or order place d)
  in-bucket bucket d here =
      let same : get_or (map f buckets) (place / 2048) [] ≡ f bucket = get_or-map f buckets (place / 2048) bucket [] in-buckets ∙ ap f (sym here) in (
        (let a = (at d).1.0 in let b = ap (λ (l : List Placed). length l) same in omega arith),
        ap (λ (l : List Placed). get_or l (place % 2048) d) (sym same) ∙ (at d).1.1 ∙ ap (λ (n : ℕ). get_or order n d) (div-add-mod place 2048),
      )

nothing : Placed
nothing = record { time = 0; slot = 0 }

pub index-requires : goal.index-requires
index-requires c =
    let long = c.args.buckets.now.ok.0 in
    let at = in-buckets (λ b. b.items) c.args.buckets.now.items (joined (map (λ b. b.items) c.args.buckets.now.items)) c.args.place c.requires.cut c.requires.there in
    omega arith

pub index-requires-2 : goal.index-requires-2
index-requires-2 c =
    let long = c.index.result.now.ok.0 in
    let at = (in-bucket (λ b. b.items) c.args.buckets.now.items (joined (map (λ b. b.items) c.args.buckets.now.items)) c.args.place c.requires.cut c.requires.there c.index.result.now nothing c.index.ensures).0 in
    omega arith

pub returns : goal.returns
returns c =
    c.index-2.ensures
    ∙ (in-bucket (λ b. b.items) c.args.buckets.now.items (joined (map (λ b. b.items) c.args.buckets.now.items)) c.args.place c.requires.cut c.requires.there c.index.result.now c.index-2.result.now c.index.ensures).1
