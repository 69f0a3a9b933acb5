-- Blocks and their links: what a route leads to, and what one more block leaves of it.
use Rattle.std.proofs.Common.{◌≡◌, refl, ◌∙◌, ap, sym, subst, ℕ, zero, suc, ◌+◌, ◌-◌, ◌*◌, ◌/◌, ◌%◌, ◌<◌, ◌≤◌, ◌⊎◌, inl, inr, true, false, ◌||◌, List, [], ◌∷◌, ◌++◌, cond, length, get_or, take, set, replicate, Some, Result, Ok, Err, arith, length-append}
use Rattle.std.specs.List.{slice_get}
use Rattle.std.specs.Prelude.{◌==◌, ◌&&◌, slice_index, is_ok, IfOk, IfErr, OnOk}
use Rattle.std.proofs.lemmas.Option.{slice_get-get_or}
use Rattle.std.proofs.lemmas.Bool.{cases_lt, cases_eq, and_parts, eqb-true, false≢true}
use Rattle.std.proofs.lemmas.Bool.Decides.{nat_tests}
use Rattle.std.proofs.lemmas.List.{length-set, length-replicate, get_or-replicate, get_or_append_left, get_or-append_right, get_or_past, get_or-set_same, get_or-set_other, nil_from_length}
use Rattle.game_trait.specs.CommandList.{same_pair}
use Rattle.game_trait.specs.NameTree.{has_name}
use Rattle.game_trait.specs.BlockTree.{route_of, next_link, Leads, IsRouteTo, LinksRise, AreFound, IsBlockTree, IsTreeInRoom, linked, IsOpen}

nowhere : (k : ℕ) → slice_index (0 ∷ 0 ∷ 0 ∷ 0 ∷ []) k ≡ 0
nowhere zero = refl
nowhere (suc zero) = refl
nowhere (suc (suc zero)) = refl
nowhere (suc (suc (suc zero))) = refl
nowhere (suc (suc (suc (suc k)))) = refl

-- the links after one was set: the set one, the others, and the new ones
pub set-link : (links : List ℕ) (link to : ℕ) → link < length links → slice_index (linked links link to) link ≡ to
set-link links link to there =
    get_or_append_left (set links link to) (0 ∷ 0 ∷ 0 ∷ 0 ∷ []) 0 link (let long = length-set links link to in omega arith)
    ∙ get_or-set_same links link to 0 there

other-link :
    (links : List ℕ) (link to k : ℕ) → k < length links → (k ≡ link → ⊥)
    → slice_index (linked links link to) k ≡ slice_index links k
other-link links link to k there other =
    get_or_append_left (set links link to) (0 ∷ 0 ∷ 0 ∷ 0 ∷ []) 0 k (let long = length-set links link to in omega arith)
    ∙ get_or-set_other links link k to 0 other

new-link : (links : List ℕ) (link to k : ℕ) → length links ≤ k → slice_index (linked links link to) k ≡ 0
new-link links link to k past =
    get_or-append_right (set links link to) (0 ∷ 0 ∷ 0 ∷ 0 ∷ []) (length links) k 0 (length-set links link to) past
    ∙ nowhere (k - length links)

-- where a link to nowhere is set, those to a block stay
pub kept-link :
    (links : List ℕ) (link to k : ℕ) → slice_index links link ≡ 0 → 0 < slice_index links k
    → slice_index (linked links link to) k ≡ slice_index links k
kept-link links link to k free some = elim (cases_lt k (length links)) [
  | inl there ↦ other-link links link to k there (λ same. (let e = ap (λ (i : ℕ). slice_index links i) same in omega arith))
  | inr past ↦ absurd (let none = get_or_past links k 0 past in omega arith)
]

-- and what a route leads to stays
Leads-linked :
    (links : List ℕ) (link to n rest at end : ℕ) → slice_index links link ≡ 0 → Leads links n rest at end
    → Leads (linked links link to) n rest at end
unfolding Leads
Leads-linked links link to zero rest at end free h = kept-link links link to at free (omega arith) ∙ h
Leads-linked links link to (suc n) rest at end free h =
    rw (kept-link links link to at free h.0)
    (h.0, Leads-linked links link to n (rest / 4) (next_link (slice_index links at) rest) end free h.1)

pub slice_get-push :
    {X : Type 0} (xs : List X) (y z : X) (at : ℕ) → slice_get (xs ++ y ∷ []) at ≡ Some z
    → (slice_get xs at ≡ Some z) ⊎ ((at ≡ length xs) × (y ≡ z))
slice_get-push [] y z zero e = inr (refl, cc)
slice_get-push [] y z (suc at) e = absurd cc
slice_get-push (x ∷ xs) y z zero e = inl e
slice_get-push (x ∷ xs) y z (suc at) e =
    elim (slice_get-push xs y z at e) [ inl old ↦ inl old | inr last ↦ inr (ap suc last.0, last.1) ]

same_pair-true : (from block : ℕ) (y : ℕ × ℕ) → same_pair (from, block) y ≡ true → (from, block) ≡ y
same_pair-true from block y same =
    let parts = and_parts _ _ same in rw (eqb-true from y.0 parts.0, eqb-true block y.1 parts.1) refl

same_pair-self : (from block : ℕ) → same_pair (from, block) (from, block) ≡ true
same_pair-self from block = grind (arith, nat_tests)

-- what a comparison with a block's two parts says
pub stands-at :
    (blocks : List (ℕ × ℕ)) (from block at : ℕ) → at < length blocks
    → true ≡ ((get_or blocks at (0, 0)).0 == from) && ((get_or blocks at (0, 0)).1 == block)
    → slice_get blocks at ≡ Some (from, block)
stands-at blocks from block at there e =
    let parts = and_parts _ _ (sym e) in
    let mirror = eqb-true (get_or blocks at (0, 0)).0 from parts.0 in
    let named = eqb-true (get_or blocks at (0, 0)).1 block parts.1 in
    slice_get-get_or blocks at (0, 0) there ∙ ap Some (λ i. (mirror i, named i))

pub stands-elsewhere :
    (blocks : List (ℕ × ℕ)) (from block at : ℕ) → at < length blocks
    → false ≡ ((get_or blocks at (0, 0)).0 == from) && ((get_or blocks at (0, 0)).1 == block)
    → slice_get blocks at ≡ Some (from, block) → ⊥
stands-elsewhere blocks from block at there e here =
    let same : get_or blocks at (0, 0) ≡ (from, block) = (let both = sym (slice_get-get_or blocks at (0, 0) there) ∙ here in cc) in
    false≢true (e ∙ ap (λ (p : ℕ × ℕ). (p.0 == from) && (p.1 == block)) same ∙ same_pair-self from block)

-- a block that stands at no place isn't there
pub none-named :
    (blocks : List (ℕ × ℕ)) (from block : ℕ) → ((at : ℕ) → slice_get blocks at ≡ Some (from, block) → ⊥)
    → has_name blocks from block ≡ false
none-named [] from block h = refl
none-named (y ∷ ys) from block h =
    elim (same_pair (from, block) y) as (λ v. same_pair (from, block) y ≡ v → v || has_name ys from block ≡ false) [
      | true ↦ λ same. absurd (h 0 (ap Some (sym (same_pair-true from block y same))))
      | false ↦ λ other. none-named ys from block (λ at e. h (suc at) e)
    ]
    refl

-- and one that stands at a place is
pub named-at :
    (blocks : List (ℕ × ℕ)) (from block at : ℕ) → slice_get blocks at ≡ Some (from, block)
    → has_name blocks from block ≡ true
named-at [] from block at e = absurd cc
named-at (y ∷ ys) from block zero e =
    let same : y ≡ (from, block) = cc in rw (same, same_pair-self from block) refl
named-at (y ∷ ys) from block (suc at) e =
    elim (same_pair (from, block) y) as (λ v. v || has_name ys from block ≡ true)
    [ true ↦ refl | false ↦ named-at ys from block at e ]

-- what a search ends with tells whether a block is there
pub told :
    (blocks : List (ℕ × ℕ)) (links : List ℕ) (from block : ℕ) (r : Result ℕ ℕ)
    → IfOk r (λ at. slice_get blocks at ≡ Some (from, block)) → IfErr r (λ link. IsOpen blocks links from block link)
    → is_ok r ≡ has_name blocks from block
told blocks links from block (Ok at) found free = sym (named-at blocks from block at found)
told blocks links from block (Err link) found free = sym free.new

-- what no numbers are once they are made so many
take-none : (n : ℕ) → take {A = ℕ} n [] ≡ []
take-none zero = refl
take-none (suc n) = refl

pub resized :
    {A E : Type 0} (r : Result A E) (n len : ℕ) (none more : List ℕ) → len ≡ length none
    → more ≡ cond (is_ok r) (take n none ++ replicate (n - len) 0) none
    → OnOk r (length none ≡ 0 → more ≡ replicate n 0)
resized (Ok x) n len none more long e = λ empty.
    let whole : n - len ≡ n = omega arith in
    e ∙ (rw (nil_from_length none empty, take-none n, whole) refl)
resized (Err x) n len none more long e = tt

-- no blocks, and roots that lead nowhere
free-root : (k : ℕ) → slice_index (replicate 4096 0) k ≡ 0
free-root k =
    let long = length-replicate {A = ℕ} 4096 0 in
    elim (cases_lt k 4096) [
      | inl within ↦ get_or-replicate 4096 k 0 0 within
      | inr past ↦ get_or_past (replicate 4096 0) k 0 (omega arith)
    ]

pub tree-roots : IsBlockTree [] (replicate 4096 0)
tree-roots = record {
  four = length-replicate {A = ℕ} 4096 0;
  rise = λ k some. absurd (let none = free-root k in omega arith);
  found = λ from block at e. absurd cc;
}

-- where there is room for one more, or where one is there, there is a tree
pub tree-there :
    (blocks : List (ℕ × ℕ)) (links : List ℕ) (entries room : ℕ) → IsTreeInRoom blocks links entries room
    → length blocks < room → IsBlockTree blocks links × (4096 + 4 * room ≤ entries)
tree-there blocks links entries room is more = elim is [
  | inl none ↦ absurd (let no_room = none.1.1 in omega arith)
  | inr tree ↦ tree
]

pub tree-some :
    (blocks : List (ℕ × ℕ)) (links : List ℕ) (entries room : ℕ) → IsTreeInRoom blocks links entries room
    → 0 < length blocks → IsBlockTree blocks links
tree-some blocks links entries room is some = elim is [
  | inl none ↦ absurd (let nobody = none.0 in omega arith)
  | inr tree ↦ tree.0
]

-- links that have more room are none the worse
pub tree-wider :
    (blocks : List (ℕ × ℕ)) (links : List ℕ) (entries wider room : ℕ) → IsTreeInRoom blocks links entries room
    → entries ≤ wider → IsTreeInRoom blocks links wider room
tree-wider blocks links entries wider room is more = elim is [
  | inl none ↦ inl none
  | inr tree ↦ inr (tree.0, (let fits = tree.1 in omega arith))
]

-- without its blocks it is a tree again, once its roots lead nowhere
pub tree-cleared :
    (blocks : List (ℕ × ℕ)) (links more : List ℕ) (entries room : ℕ) → IsTreeInRoom blocks links entries room
    → (length links ≡ 0 → more ≡ []) → (4096 ≤ length links → more ≡ replicate 4096 0)
    → IsTreeInRoom [] more entries room
tree-cleared blocks links more entries room is none roots = elim is [
  | inl empty ↦ inl (refl, (ap (λ (l : List ℕ). length l) (none empty.1.0), empty.1.1))
  | inr tree ↦ (let four = tree.0.four in inr (rw (roots (omega arith)) tree-roots, tree.1))
]

-- once there are roots, and room for four links more, there is room for one block more
pub tree-reserved :
    (blocks : List (ℕ × ℕ)) (links more : List ℕ) (entries wider room : ℕ) → IsTreeInRoom blocks links entries room
    → (length links ≡ 0 → more ≡ replicate 4096 0) → (0 < length links → more ≡ links) → length more + 4 ≤ wider
    → IsTreeInRoom blocks more wider (length blocks + 1)
tree-reserved blocks links more entries wider room is roots same fits = elim is [
  | inl none ↦ (let made = roots none.1.0 in
      let long = length-replicate {A = ℕ} 4096 0 in
      let as_long = ap (λ (l : List ℕ). length l) made in
      let nobody = none.0 in
      inr (rw (nil_from_length blocks nobody, made) tree-roots, omega arith))
  | inr tree ↦ (let four = tree.0.four in
      let kept = same (omega arith) in
      let as_long = ap (λ (l : List ℕ). length l) kept in
      inr (rw kept tree.0, omega arith))
]

module _ {blocks : List (ℕ × ℕ)} {links : List ℕ} (tree : IsBlockTree blocks links) where
  -- one more block
  module _ {from block link : ℕ} (is : IsOpen blocks links from block link) where
    rise-push : LinksRise (linked links link (length blocks + 1)) (length (blocks ++ (from, block) ∷ []))
    rise-push k some =
        let longer = length-append blocks ((from, block) ∷ []) in
        let four = tree.four in
        elim (cases_lt k (length links)) [
          | inl there ↦ elim (cases_eq k link) [
            | inl same ↦ (let this = subst (λ (j : ℕ). slice_index (linked links j (length blocks + 1)) k ≡ length blocks + 1) same (set-link links k (length blocks + 1) there) in
                (omega arith, omega arith))
            | inr other ↦ (let that = other-link links link (length blocks + 1) k there other in
                let was = tree.rise k (subst (λ (n : ℕ). 0 < n) that some) in
                let low = was.0 in
                let high = was.1 in
                (omega arith, omega arith))
          ]
          | inr past ↦ absurd (let none = new-link links link (length blocks + 1) k past in omega arith)
        ]

    found-push : AreFound (blocks ++ (from, block) ∷ []) (linked links link (length blocks + 1))
    found-push f n at e = elim (slice_get-push blocks (from, block) (f, n) at e) [
      | inl old ↦ (let way = tree.found f n at old in
          (way.0, Leads-linked links link (length blocks + 1) way.0 (route_of f n / 4096) (route_of f n % 4096) at is.free way.1))
      | inr last ↦ subst (λ (p : ℕ × ℕ). IsRouteTo (linked links link (length blocks + 1)) (route_of p.0 p.1) at) last.1
          (subst (λ (i : ℕ). IsRouteTo (linked links link (length blocks + 1)) (route_of from block) i) (sym last.0) is.leads)
    ]

    pub tree-push : IsBlockTree (blocks ++ (from, block) ∷ []) (linked links link (length blocks + 1))
    tree-push =
        let longer = length-append blocks ((from, block) ∷ []) in
        let four = tree.four in
        let long = length-set links link (length blocks + 1) in
        let more = length-append (set links link (length blocks + 1)) (0 ∷ 0 ∷ 0 ∷ 0 ∷ []) in
        record { four = omega arith; rise = rise-push; found = found-push }
