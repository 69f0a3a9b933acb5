-- The players' names differ.
use Rattle.std.proofs.Common.{◌≡◌, ℕ, zero, suc, ◌+◌, ◌≤◌, ◌<◌, true, false, [], ◌∷◌, decimal, bytes_eq, refl, sym, ◌∙◌, arith}
use Rattle.std.proofs.lemmas.List.Folds.{list_any-append}
use Rattle.std.proofs.lemmas.Slice.Eq.{bytes_eq-Decides}
use Rattle.std.proofs.lemmas.Fmt.{decimal_injective}
use Rattle.match_setup.specs.Roster.{is_known, with_name}
use Rattle.match_maker.specs.Below.{joined_below, each_below}
use Rattle.match_maker.specs.Generator.{name_at}
use Rattle.match_maker.proofs.Lists.{joined_more}

-- names of different players differ
name_at-apart : (i j : ℕ) → i < 16 → j < i → bytes_eq (name_at i) (name_at j) ≡ false
name_at-apart i j h l =
    elim (bytes_eq (name_at i) (name_at j)) as (λ v. bytes_eq (name_at i) (name_at j) ≡ v → v ≡ false) [
      | true ↦ λ same.
          let names = (bytes_eq-Decides (name_at i) (name_at j)).0 same in
          let numbers : decimal i ≡ decimal j = cc in
          absurd (omega (arith, decimal_injective i j (omega (arith, h)) (omega (arith, h, l)) numbers, l))
      | false ↦ λ other. refl
    ]
    refl

-- a name isn't among those before it
name_at-new : (i k : ℕ) → i < 16 → k ≤ i → is_known (each_below name_at k) (name_at i) ≡ false
unfolding joined_below
name_at-new i zero h l = refl
name_at-new i (suc k) h l =
    list_any-append (bytes_eq (name_at i)) (each_below name_at k) (name_at k ∷ [])
    ∙ rw (name_at-new i k h (omega (arith, l)), name_at-apart i k h (omega (arith, l))) refl

-- the next name is put last
pub with_next_name : (i : ℕ) → i < 16 → with_name (each_below name_at i) (name_at i) ≡ each_below name_at (i + 1)
with_next_name i h = rw (name_at-new i i h (omega arith)) (sym (joined_more (λ j. name_at j ∷ []) i))
