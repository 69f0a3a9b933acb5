-- Names in blocks: what a block's entry tells of a name, and what one more name leaves of it.
use Rattle.std.proofs.Common.{◌≡◌, refl, ◌∙◌, ap, sym, subst, ℕ, zero, suc, ◌+◌, ◌-◌, ◌/◌, ◌<◌, ◌≤◌, inl, inr, true, false, List, [], ◌∷◌, ◌++◌, length, get_or, set, replicate, Some, arith, length-append}
use Rattle.std.specs.List.{slice_get}
use Rattle.std.specs.Prelude.{slice_index}
use Rattle.std.proofs.lemmas.Option.{slice_get_within}
use Rattle.std.proofs.lemmas.Bool.{cases_eq, false≢true}
use Rattle.std.proofs.lemmas.List.{get_or_read_under, length-set, length-replicate, get_or-replicate, get_or_append_left, get_or-append_right, get_or-set_same, get_or-set_other}
use Rattle.game_trait.specs.NameTree.{has_name, entry_of, IsHeld, AreInBlocks}
use Rattle.game_trait.specs.BlockTree.{IsPlaced}
use Rattle.game_trait.proofs.BlockTrees.{named-at, none-named, slice_get-push}

-- what stands at a place, stands there whatever is appended, which stands behind all
slice_get-left : {X : Type 0} (xs ys : List X) (at : ℕ) (x : X) → slice_get xs at ≡ Some x → slice_get (xs ++ ys) at ≡ Some x
slice_get-left [] ys at x e = absurd cc
slice_get-left (y ∷ xs) ys zero x e = e
slice_get-left (y ∷ xs) ys (suc at) x e = slice_get-left xs ys at x e

slice_get-last : {X : Type 0} (xs : List X) (x : X) → slice_get (xs ++ x ∷ []) (length xs) ≡ Some x
slice_get-last [] x = refl
slice_get-last (y ∷ xs) x = slice_get-last xs x

-- two pairs are one and the same
abbrev AreSame : ℕ × ℕ → ℕ × ℕ → Type 0
AreSame a b = a ≡ b

-- one entry is of one block, and of one number of it
same-block : (at number other n : ℕ) → entry_of at number ≡ entry_of other n → at ≡ other
same-block at number other n e = omega arith

same-number : (at number other n : ℕ) → entry_of at number ≡ entry_of other n → number / 16 ≡ n / 16 → number ≡ n
same-number at number other n e high = omega arith

-- a block that is placed makes no more than one more
pub placed-most :
    (old : List (ℕ × ℕ)) (from block at : ℕ) (new : List (ℕ × ℕ))
    → IsPlaced old from block at new → length new ≤ length old + 1
placed-most old from block at new placed = elim placed [
  | inl was ↦ rw was.1 (omega arith)
  | inr more ↦ rw more.1.1 (let longer = length-append old ((from, block) ∷ []) in omega arith)
]

-- no names, no blocks and no entries
pub none-in_blocks : AreInBlocks [] [] []
none-in_blocks = record {
  sixteen = refl;
  alone = λ from block at other e f. absurd cc;
  held = λ from number place e. absurd cc;
  told = λ from number at place h. absurd (let none = h.0 in cc);
}

module _ {names blocks : List (ℕ × ℕ)} {places : List ℕ} (is : AreInBlocks names blocks places) where
  -- each block's entries are there
  pub entry-within :
      (from block at number : ℕ) → slice_get blocks at ≡ Some (from, block) → entry_of at number < length places
  entry-within from block at number there =
      let within = slice_get_within blocks at (from, block) there in
      let sixteen = is.sixteen in
      omega arith

  -- what is read at one of them is what it holds
  pub entry-read :
      (from number at held : ℕ) → slice_get blocks at ≡ Some (from, number / 16)
      → held ≡ get_or places (entry_of at number) held → held ≡ slice_index places (entry_of at number)
  entry-read from number at held there read =
      get_or_read_under places (entry_of at number) (length places) held 0 read (entry-within from (number / 16) at number there) refl

  -- a name stands at the place that its entry holds
  pub held-there :
      (from number at held : ℕ) → slice_get blocks at ≡ Some (from, number / 16)
      → held ≡ get_or places (entry_of at number) held → 0 < held → slice_get names (held - 1) ≡ Some (from, number)
  held-there from number at held there read some =
      let entry = entry-read from number at held there read in
      is.told from number at (held - 1) (there, omega arith)

  -- a name whose entry holds no place isn't there
  pub not-held :
      (from number at : ℕ) → IsHeld blocks places from number at 0 → has_name names from number ≡ false
  not-held from number at h = none-named names from number (λ place e.
      let held = is.held from number place e in
      let same = is.alone from (number / 16) held.0 at held.1.0 h.0 in
      let some = subst (λ (a : ℕ). slice_index places (entry_of a number) ≡ place + 1) same held.1.1 in
      let none = h.1 in
      omega arith)

  -- nor is one whose block isn't there
  pub not-in_block :
      (from number : ℕ) → has_name blocks from (number / 16) ≡ false → has_name names from number ≡ false
  not-in_block from number none = none-named names from number (λ place e.
      let held = is.held from number place e in
      false≢true (sym none ∙ named-at blocks from (number / 16) held.0 held.1.0))

  -- one more block
  module _ (from block : ℕ) (none : has_name blocks from block ≡ false) where
    newcomer : (f b at : ℕ) → slice_get blocks at ≡ Some (f, b) → AreSame (from, block) (f, b) → ⊥
    newcomer f b at e same =
        false≢true (sym none ∙ named-at blocks from block at (subst (λ (p : ℕ × ℕ). slice_get blocks at ≡ Some p) (sym same) e))

    alone-open :
        (f b at other : ℕ) → slice_get (blocks ++ (from, block) ∷ []) at ≡ Some (f, b)
        → slice_get (blocks ++ (from, block) ∷ []) other ≡ Some (f, b) → at ≡ other
    alone-open f b at other e h = elim (slice_get-push blocks (from, block) (f, b) at e) [
      | inl x ↦ elim (slice_get-push blocks (from, block) (f, b) other h) [
        | inl y ↦ is.alone f b at other x y
        | inr y ↦ absurd (newcomer f b at x y.1)
      ]
      | inr x ↦ elim (slice_get-push blocks (from, block) (f, b) other h) [
        | inl y ↦ absurd (newcomer f b other y x.1)
        | inr y ↦ x.0 ∙ sym y.0
      ]
    ]

    old-entry : (k : ℕ) → k < length places → slice_index (places ++ replicate 16 0) k ≡ slice_index places k
    old-entry k within = get_or_append_left places (replicate 16 0) 0 k within

    new-entry : (at number : ℕ) → at ≡ length blocks → slice_index (places ++ replicate 16 0) (entry_of at number) ≡ 0
    new-entry at number last =
        let sixteen = is.sixteen in
        get_or-append_right places (replicate 16 0) (length places) (entry_of at number) 0 refl (omega arith)
        ∙ get_or-replicate 16 (entry_of at number - length places) 0 0 (omega arith)

    held-open :
        (f number place : ℕ) → slice_get names place ≡ Some (f, number)
        → (at : ℕ) × IsHeld (blocks ++ (from, block) ∷ []) (places ++ replicate 16 0) f number at (place + 1)
    held-open f number place e =
        let was = is.held f number place e in
        let within = entry-within f (number / 16) was.0 number was.1.0 in
        (was.0, (slice_get-left blocks ((from, block) ∷ []) was.0 (f, number / 16) was.1.0, old-entry (entry_of was.0 number) within ∙ was.1.1))

    told-open :
        (f number at place : ℕ)
        → IsHeld (blocks ++ (from, block) ∷ []) (places ++ replicate 16 0) f number at (place + 1)
        → slice_get names place ≡ Some (f, number)
    told-open f number at place h = elim (slice_get-push blocks (from, block) (f, number / 16) at h.0) [
      | inl was ↦ (let within = entry-within f (number / 16) at number was in
          is.told f number at place (was, sym (old-entry (entry_of at number) within) ∙ h.1))
      | inr last ↦ absurd (let nobody = new-entry at number last.0 in let some = h.1 in omega arith)
    ]

    blocks-open : AreInBlocks names (blocks ++ (from, block) ∷ []) (places ++ replicate 16 0)
    blocks-open =
        let sixteen = is.sixteen in
        let longer = length-append blocks ((from, block) ∷ []) in
        let more = length-append places (replicate 16 0) in
        let of = length-replicate {A = ℕ} 16 0 in
        record { sixteen = omega arith; alone = alone-open; held = held-open; told = told-open }

  -- a block is there, or one more, with its entries
  pub in-block :
      (from block at : ℕ) (more : List (ℕ × ℕ)) (entries : List ℕ)
      → IsPlaced blocks from block at more
      → (at < length places / 16 → entries ≡ places)
      → (length places / 16 ≤ at → entries ≡ places ++ replicate 16 0)
      → AreInBlocks names more entries × (slice_get more at ≡ Some (from, block))
  in-block from block at more entries placed kept opened =
      let sixteen = is.sixteen in
      elim placed [
        | inl old ↦ (let within = slice_get_within blocks at (from, block) old.0 in
            rw (kept (omega arith), old.1) (is, old.0))
        | inr new ↦ (let last = new.1.0 in
            rw (opened (omega arith), new.1.1, last) (blocks-open from block new.0, slice_get-last blocks (from, block)))
      ]

  -- one more name, whose place its block's entry holds
  module _ (from number at : ℕ) (new : has_name names from number ≡ false)
      (there : slice_get blocks at ≡ Some (from, number / 16)) where
    abbrev held_more : List ℕ
    held_more = set places (entry_of at number) (length names + 1)

    one-name :
        (f n other : ℕ) → slice_get blocks other ≡ Some (f, n / 16) → entry_of at number ≡ entry_of other n
        → AreSame (from, number) (f, n)
    one-name f n other h e =
        let block = same-block at number other n e in
        let key : AreSame (from, number / 16) (f, n / 16) =
        (let both = sym there ∙ ap (λ (a : ℕ). slice_get blocks a) block ∙ h in cc) in
        let mirror = ap (λ (p : ℕ × ℕ). p.0) key in
        let same = same-number at number other n e (ap (λ (p : ℕ × ℕ). p.1) key) in
        λ i. (mirror i, same i)

    other-name : (f n place : ℕ) → slice_get names place ≡ Some (f, n) → AreSame (from, number) (f, n) → ⊥
    other-name f n place e same =
        false≢true (sym new ∙ named-at names from number place (subst (λ (p : ℕ × ℕ). slice_get names place ≡ Some p) (sym same) e))

    set-entry : slice_index held_more (entry_of at number) ≡ length names + 1
    set-entry =
        get_or-set_same places (entry_of at number) (length names + 1) 0 (entry-within from (number / 16) at number there)

    other-entry :
        (f n other : ℕ) → (entry_of other n ≡ entry_of at number → ⊥)
        → slice_index held_more (entry_of other n) ≡ slice_index places (entry_of other n)
    other-entry f n other apart =
        get_or-set_other places (entry_of at number) (entry_of other n) (length names + 1) 0 apart

    held-push :
        (f n place : ℕ) → slice_get (names ++ (from, number) ∷ []) place ≡ Some (f, n)
        → (other : ℕ) × IsHeld blocks held_more f n other (place + 1)
    held-push f n place e = elim (slice_get-push names (from, number) (f, n) place e) [
      | inl old ↦ (let was = is.held f n place old in
          let apart = λ (same : entry_of was.0 n ≡ entry_of at number). other-name f n place old (one-name f n was.0 was.1.0 (sym same)) in
          (was.0, (was.1.0, other-entry f n was.0 apart ∙ was.1.1)))
      | inr last ↦ subst (λ (p : ℕ × ℕ). (other : ℕ) × IsHeld blocks held_more p.0 p.1 other (place + 1)) last.1
          (at, (there, set-entry ∙ ap (λ (k : ℕ). k + 1) (sym last.0)))
    ]

    told-push :
        (f n other place : ℕ) → IsHeld blocks held_more f n other (place + 1)
        → slice_get (names ++ (from, number) ∷ []) place ≡ Some (f, n)
    told-push f n other place h = elim (cases_eq (entry_of other n) (entry_of at number)) [
      | inl same ↦ (let this = subst (λ (k : ℕ). slice_index held_more k ≡ place + 1) same h.1 in
          let that = set-entry in
          let last : length names ≡ place = omega arith in
          subst (λ (k : ℕ). slice_get (names ++ (from, number) ∷ []) k ≡ Some (f, n)) last
          (slice_get-last names (from, number) ∙ ap Some (one-name f n other h.0 (sym same))))
      | inr apart ↦ slice_get-left names ((from, number) ∷ []) place (f, n)
          (is.told f n other place (h.0, sym (other-entry f n other apart) ∙ h.1))
    ]

    pub in-push : AreInBlocks (names ++ (from, number) ∷ []) blocks (set places (entry_of at number) (length names + 1))
    in-push = record {
      sixteen = length-set places (entry_of at number) (length names + 1) ∙ is.sixteen;
      alone = is.alone;
      held = held-push;
      told = told-push;
    }

-- what a name's entry tells, once its block is there
module _ {names blocks : List (ℕ × ℕ)} {places : List ℕ} (is : AreInBlocks names blocks places)
    (from number at : ℕ) (more : List (ℕ × ℕ)) (entries : List ℕ)
    (placed : IsPlaced blocks from (number / 16) at more)
    (kept : at < length places / 16 → entries ≡ places)
    (opened : length places / 16 ≤ at → entries ≡ places ++ replicate 16 0) where
  -- where it holds a place, the name was there, and nothing was opened
  pub held-before :
      0 < slice_index entries (entry_of at number)
      → ((more ≡ blocks) × (entries ≡ places)) × (has_name names from number ≡ true)
  held-before some =
      let sixteen = is.sixteen in
      elim placed [
        | inl old ↦ (let within = slice_get_within blocks at (from, number / 16) old.0 in
            let same = kept (omega arith) in
            let held = ap (λ (l : List ℕ). slice_index l (entry_of at number)) same in
            let place = slice_index places (entry_of at number) - 1 in
            ((old.1, same), named-at names from number place (is.told from number at place (old.0, omega arith))))
        | inr new ↦ absurd (let last = new.1.0 in
            let made = ap (λ (l : List ℕ). slice_index l (entry_of at number)) (opened (omega arith)) in
            let nobody = new-entry is from (number / 16) new.0 at number last in
            omega arith)
      ]

  -- where it holds none, the name wasn't there
  pub not-before : slice_index entries (entry_of at number) ≡ 0 → has_name names from number ≡ false
  not-before none =
      let block = in-block is from (number / 16) at more entries placed kept opened in
      not-held block.0 from number at (block.1, none)
