-- The names that entries hold the places of, and what one more of them leaves.
use Rattle.std.proofs.Common.{◌≡◌, refl, ◌∙◌, ap, sym, subst, ℕ, zero, suc, ◌+◌, ◌-◌, ◌*◌, ◌/◌, ◌%◌, ◌<◌, ◌≤◌, inl, inr, true, false, cond, List, [], ◌∷◌, ◌++◌, length, get_or, set, replicate, Some, arith, length-append}
use Rattle.std.specs.List.{slice_get}
use Rattle.std.specs.Prelude.{◌==◌, slice_index}
use Rattle.std.proofs.lemmas.Option.{slice_get-get_or, slice_get_within, get_or_from_slice_get}
use Rattle.std.proofs.lemmas.Bool.{cases_lt, false≢true}
use Rattle.std.proofs.lemmas.Bool.Decides.{nat_tests}
use Rattle.std.proofs.lemmas.List.{get_or_append_left, get_or_past}
use Rattle.game_trait.specs.NameTree.{NamesInRoom, has_name, entry_of, entry_with, name_at, names_in, AreInBlocks, IsRoomy}
use Rattle.game_trait.specs.BlockTree.{IsPlaced}
use Rattle.game_trait.proofs.BlockTrees.{named-at}
use Rattle.game_trait.proofs.NameTrees.{entry-within, in-block, in-push}

-- what an entry holds is found where it was, whatever entries are appended
entry-left :
    (places more : List ℕ) (held entry : ℕ) → entry < length places → slice_index places entry ≡ held
    → (entry_with (places ++ more) held ≡ entry_with places held) × (entry_with places held < length places)
unfolding entry_with
entry-left [] more held entry within here = absurd (omega arith)
entry-left (x ∷ places) more held zero within here =
    let same : (x == held) ≡ true = grind (arith, nat_tests) in
    rw same (refl, omega arith)
entry-left (x ∷ places) more held (suc entry) within here =
    let rest = entry-left places more held entry (omega arith) here in
    let low = rest.1 in
    elim (x == held) as (λ v. (cond {A = ℕ} v 0 (suc (entry_with (places ++ more) held)) ≡ cond {A = ℕ} v 0 (suc (entry_with places held)))
    × (cond {A = ℕ} v 0 (suc (entry_with places held)) < suc (length places)))
    [ true ↦ (refl, omega arith) | false ↦ (ap suc rest.0, omega arith) ]

-- what is found elsewhere is found where it was, once an entry of nothing is set
entry-other :
    (places : List ℕ) (entry to held : ℕ) → slice_index places entry ≡ 0 → 0 < held → held < to
    → entry_with (set places entry to) held ≡ entry_with places held
unfolding entry_with
entry-other [] entry to held free some less = refl
entry-other (x ∷ places) zero to held free some less =
    let was : (x == held) ≡ false = grind (arith, nat_tests) in
    let is : (to == held) ≡ false = grind (arith, nat_tests) in
    rw (was, is) refl
entry-other (x ∷ places) (suc entry) to held free some less =
    let rest = entry-other places entry to held free some less in
    elim (x == held) as (λ v. cond {A = ℕ} v 0 (suc (entry_with (set places entry to) held)) ≡ cond {A = ℕ} v 0 (suc (entry_with places held)))
    [ true ↦ refl | false ↦ ap suc rest ]

-- and what is set is found there, where all others hold less
entry-set :
    (places : List ℕ) (entry to : ℕ) → entry < length places → ((k : ℕ) → slice_index places k < to)
    → entry_with (set places entry to) to ≡ entry
unfolding entry_with
entry-set [] entry to within less = absurd (omega arith)
entry-set (x ∷ places) zero to within less =
    let same : (to == to) ≡ true = grind (arith, nat_tests) in
    rw same refl
entry-set (x ∷ places) (suc entry) to within less =
    let low : x < to = less 0 in
    let other : (x == to) ≡ false = grind (arith, nat_tests) in
    rw other (ap suc (entry-set places entry to (omega arith) (λ k. less (suc k))))

-- there are as many names as are counted
pub length-names_in : (blocks : List (ℕ × ℕ)) (places : List ℕ) (count : ℕ) → length (names_in blocks places count) ≡ count
length-names_in blocks places zero = refl
length-names_in blocks places (suc count) =
    let rest = length-names_in blocks places count in
    let longer = length-append (names_in blocks places count) (name_at blocks (entry_with places (suc count)) ∷ []) in
    omega arith

-- names are the same where each is
names-same :
    (blocks more : List (ℕ × ℕ)) (places entries : List ℕ) (count : ℕ)
    → ((held : ℕ) → 0 < held → held ≤ count → name_at more (entry_with entries held) ≡ name_at blocks (entry_with places held))
    → names_in more entries count ≡ names_in blocks places count
names-same blocks more places entries zero each = refl
names-same blocks more places entries (suc count) each =
    let rest = names-same blocks more places entries count (λ held some most. each held some (omega arith)) in
    let last = each (suc count) (omega arith) (omega arith) in
    λ i. rest i ++ last i ∷ []

module _ {blocks : List (ℕ × ℕ)} {places : List ℕ} (count : ℕ) (is : AreInBlocks (names_in blocks places count) blocks places) where
  -- each name's place is held by an entry
  entry-there :
      (more : List ℕ) (held : ℕ) → 0 < held → held ≤ count
      → (entry_with (places ++ more) held ≡ entry_with places held) × (entry_with places held < length places)
  entry-there more held some most =
      let names = names_in blocks places count in
      let long = length-names_in blocks places count in
      let name = get_or names (held - 1) (0, 0) in
      let at = is.held name.0 name.1 (held - 1) (slice_get-get_or names (held - 1) (0, 0) (omega arith)) in
      let here = at.1.1 in
      entry-left places more held (entry_of at.0 name.1)
      (entry-within is name.0 (name.1 / 16) at.0 name.1 at.1.0) (omega arith)

  names-open :
      (from block : ℕ) (more : List ℕ)
      → names_in (blocks ++ (from, block) ∷ []) (places ++ more) count ≡ names_in blocks places count
  names-open from block more = names-same blocks (blocks ++ (from, block) ∷ []) places (places ++ more) count (λ held some most.
      let entry = entry-there more held some most in
      let within = entry.1 in
      let sixteen = is.sixteen in
      let e = entry_with places held in
      let key = get_or_append_left blocks ((from, block) ∷ []) (0, 0) (e / 16) (omega arith) in
      ap (λ (k : ℕ). name_at (blocks ++ (from, block) ∷ []) k) entry.0
      ∙ ap (λ (p : ℕ × ℕ). (p.0, p.1 * 16 + e % 16)) key)

  -- no entry holds more than the count
  entry-most : (k : ℕ) → slice_index places k < count + 1
  entry-most k =
      let long = length-names_in blocks places count in
      let sixteen = is.sixteen in
      let held = slice_index places k in
      elim (cases_lt k (length places)) [
        | inl within ↦ elim (cases_lt 0 held) [
          | inl some ↦ (let key = get_or blocks (k / 16) (0, 0) in
              let number = key.1 * 16 + k % 16 in
              let block : number / 16 ≡ key.1 = omega arith in
              let entry : entry_of (k / 16) number ≡ k = omega arith in
              let there : slice_get blocks (k / 16) ≡ Some (key.0, number / 16) =
              slice_get-get_or blocks (k / 16) (0, 0) (omega arith) ∙ ap (λ (b : ℕ). Some (key.0, b)) (sym block) in
              let this : slice_index places (entry_of (k / 16) number) ≡ held - 1 + 1 =
              ap (λ (e : ℕ). slice_index places e) entry ∙ omega arith in
              let low = slice_get_within (names_in blocks places count) (held - 1) (key.0, number)
              (is.told key.0 number (k / 16) (held - 1) (there, this)) in
              omega arith)
          | inr none ↦ omega arith
        ]
        | inr past ↦ (let none = get_or_past places k 0 past in omega arith)
      ]

  module _ (from number at : ℕ) (new : has_name (names_in blocks places count) from number ≡ false)
      (there : slice_get blocks at ≡ Some (from, number / 16)) where
    -- the entry of a name that isn't there holds nothing
    entry-free : slice_index places (entry_of at number) ≡ 0
    entry-free = elim (cases_lt 0 (slice_index places (entry_of at number))) [
      | inl some ↦ absurd (false≢true (sym new
          ∙ named-at (names_in blocks places count) from number (slice_index places (entry_of at number) - 1)
          (is.told from number at (slice_index places (entry_of at number) - 1) (there, omega arith))))
      | inr none ↦ omega arith
    ]

    abbrev entries : List ℕ
    entries = set places (entry_of at number) (count + 1)

    name-new : name_at blocks (entry_with entries (suc count)) ≡ (from, number)
    name-new =
        let on : suc count ≡ count + 1 = omega arith in
        let entry : entry_with entries (suc count) ≡ entry_of at number =
        ap (λ (n : ℕ). entry_with entries n) on
        ∙ entry-set places (entry_of at number) (count + 1) (entry-within is from (number / 16) at number there) entry-most in
        let place : entry_of at number / 16 ≡ at = omega arith in
        let rest : (number / 16) * 16 + entry_of at number % 16 ≡ number = omega arith in
        let key : get_or blocks (entry_of at number / 16) (0, 0) ≡ (from, number / 16) =
        ap (λ (k : ℕ). get_or blocks k (0, 0)) place ∙ get_or_from_slice_get blocks at (from, number / 16) (0, 0) there in
        ap (λ (k : ℕ). name_at blocks k) entry
        ∙ ap (λ (p : ℕ × ℕ). (p.0, p.1 * 16 + entry_of at number % 16)) key
        ∙ ap (λ (n : ℕ). (from, n)) rest

    names-set : names_in blocks entries (count + 1) ≡ names_in blocks places count ++ (from, number) ∷ []
    names-set =
        let on : count + 1 ≡ suc count = omega arith in
        let kept = names-same blocks blocks places entries count (λ held some most.
        ap (λ (k : ℕ). name_at blocks k) (entry-other places (entry_of at number) (count + 1) held entry-free some (omega arith))) in
        ap (λ (n : ℕ). names_in blocks entries n) on ∙ (λ i. kept i ++ name-new i ∷ [])

    in-set : AreInBlocks (names_in blocks places count ++ (from, number) ∷ []) blocks entries
    in-set =
        let pushed = in-push is from number at new there in
        rw (length-names_in blocks places count) at pushed

-- where there is room for one more
pub record HasRoom (count : ℕ) (blocks : NamesInRoom) (places : List ℕ) (entries room : ℕ) : Type 0 where
  pub less : count < room
  pub in_blocks : length blocks.items < blocks.room
  pub in_places : length places + 16 ≤ entries

pub has-room :
    (count : ℕ) (blocks : NamesInRoom) (places : List ℕ) (entries room first_room : ℕ)
    → AreInBlocks (names_in blocks.items places count) blocks.items places
    → IsRoomy count blocks entries room first_room
    → length (names_in blocks.items places count) < room → HasRoom count blocks places entries room
has-room count blocks places entries room first_room is roomy less =
    let long = length-names_in blocks.items places count in
    let sixteen = is.sixteen in
    let in_blocks = roomy.in_blocks in
    let in_places = roomy.in_places in
    record { less = omega arith; in_blocks = omega arith; in_places = omega arith }

-- once a name that wasn't there is held where its block is, it stands behind the others
pub push-names :
    (blocks : List (ℕ × ℕ)) (places : List ℕ) (count from number at : ℕ) (more : List (ℕ × ℕ)) (entries : List ℕ)
    → AreInBlocks (names_in blocks places count) blocks places
    → has_name (names_in blocks places count) from number ≡ false
    → IsPlaced blocks from (number / 16) at more
    → (at < length places / 16 → entries ≡ places)
    → (length places / 16 ≤ at → entries ≡ places ++ replicate 16 0)
    → (names_in more (set entries (entry_of at number) (count + 1)) (count + 1) ≡ names_in blocks places count ++ (from, number) ∷ [])
    × AreInBlocks (names_in more (set entries (entry_of at number) (count + 1)) (count + 1)) more (set entries (entry_of at number) (count + 1))
push-names blocks places count from number at more entries is new placed kept opened =
    let block = in-block is from (number / 16) at more entries placed kept opened in
    let sixteen = is.sixteen in
    let same : names_in more entries count ≡ names_in blocks places count = elim placed [
      | inl old ↦ (let within = slice_get_within blocks at (from, number / 16) old.0 in
          rw (kept (omega arith), old.1) refl)
      | inr one ↦ (let last = one.1.0 in
          rw (opened (omega arith), one.1.1) (names-open count is from (number / 16) (replicate 16 0)))
    ] in
    let in_more = subst (λ (names : List (ℕ × ℕ)). AreInBlocks names more entries) (sym same) block.0 in
    let new_there = ap (λ (names : List (ℕ × ℕ)). has_name names from number) same ∙ new in
    let one_more = names-set count in_more from number at new_there block.1 in (
      one_more ∙ ap (λ (names : List (ℕ × ℕ)). names ++ (from, number) ∷ []) same,
      subst (λ (names : List (ℕ × ℕ)). AreInBlocks names more (set entries (entry_of at number) (count + 1))) (sym one_more)
          (in-set count in_more from number at new_there block.1),
    )
