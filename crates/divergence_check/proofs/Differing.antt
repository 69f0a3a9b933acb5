-- Items and those that are due, compared one after the other.
use Rattle.std.proofs.Common.{◌≡◌, refl, ◌∙◌, sym, ap, ℕ, zero, suc, ◌+◌, ◌-◌, ◌≤◌, ◌<◌, List, [], ◌∷◌, ◌++◌, length, map, take, drop, arith}
use Rattle.std.proofs.lemmas.List.{take_all, take-append-drop}
use Rattle.std.specs.Prelude.{Some, None, slice_get}
use Rattle.game_trait.specs.declared.command.Command.{Command}
use Rattle.game_trait.specs.declared.command.Item.{Item}
use Rattle.game_trait.specs.declared.command.Item.TheVariants.{Cmd, Beat}
use Rattle.game_trait.specs.Run.{IsPrefix}
use Rattle.game_trait.specs.Ordered.{tick_of, due_at}
use Rattle.pending_list.proofs.Walks.{IsWalked, FoundDue, walk-here, walk-left, walk-done}
use Rattle.pending_list.proofs.Walks.{take-more}
use Rattle.divergence_check.specs.Divergence.{DiffersFirstAt}
use Rattle.game_trait.proofs.Lengths.{length-tick_of-due}

-- the item behind so many others
pub get-dropped :
    {X : Type 0} (xs : List X) (n i : ℕ) → slice_get (drop n xs) i ≡ slice_get xs (n + i)
get-dropped xs zero i = (let e : zero + i ≡ i = omega arith in rw e refl)
get-dropped [] (suc n) i = refl
get-dropped (x ∷ xs) (suc n) i =
    (let e : suc n + i ≡ suc (n + i) = omega arith in rw e (get-dropped xs n i))

-- the items of a tick: its commands, and then the beat
command-due :
    (xs : List Command) (i : ℕ) (x : Command) → slice_get xs i ≡ Some x
    → slice_get (map Cmd xs ++ Beat ∷ []) i ≡ Some (Cmd x)
command-due [] i x here = absurd cc
command-due (y ∷ ys) zero x here =
    (let same : y ≡ x = cc in ap (λ (z : Command). Some (Cmd z)) same)
command-due (y ∷ ys) (suc i) x here = command-due ys i x here

beat-due : (xs : List Command) → slice_get (map Cmd xs ++ Beat ∷ []) (length xs) ≡ Some Beat
beat-due [] = refl
beat-due (x ∷ xs) = beat-due xs

get-front : {X : Type 0} (front rest : List X) (n : ℕ) → n < length front → slice_get (front ++ rest) n ≡ slice_get front n
get-front [] rest n low = absurd (omega arith)
get-front (x ∷ xs) rest zero low = refl
get-front (x ∷ xs) rest (suc n) low = get-front xs rest n (omega arith)

-- what differs somewhere isn't a front
pub differs-no-front :
    (items due : List Item) (n : ℕ) → DiffersFirstAt items due n → IsPrefix due items → ⊥
differs-no-front items due n h front =
    h.other (ap (λ (l : List Item). slice_get l n) front.1 ∙ get-front due front.0 n h.some_due)

-- one item more is the same
same-more :
    (xs ys : List Item) (n : ℕ) (z : Item) → take n xs ≡ take n ys → slice_get xs n ≡ Some z
    → slice_get ys n ≡ Some z
    → take (n + 1) xs ≡ take (n + 1) ys
same-more xs ys n z so_far here there =
    take-more xs n z here ∙ ap (λ (l : List Item). l ++ z ∷ []) so_far
    ∙ sym (take-more ys n z there)

module _ {all : List Command} {t start next : ℕ} (h : IsWalked all t start next) (items : List Item)
    (place at : ℕ)
    (level : at ≡ place + (next - start))
    (so_far : take (next - start) (drop place items) ≡ take (next - start) (tick_of all t)) where
  here : slice_get (drop place items) (next - start) ≡ slice_get items at
  here = get-dropped items place (next - start) ∙ ap (slice_get items) (sym level)

  -- the next command stands there
  pub stands-more :
      (x : Command) → FoundDue all t next (Some x) → slice_get items at ≡ Some (Cmd x)
      → take ((next + 1) - start) (drop place items) ≡ take ((next + 1) - start) (tick_of all t)
  stands-more x found stands =
      let from = h.from in
      let e : (next + 1) - start ≡ (next - start) + 1 = omega arith in
      let due = command-due (due_at all t) (next - start) x (walk-here h (Some x) found) in
      rw e (same-more (drop place items) (tick_of all t) (next - start) (Cmd x) so_far
      (here ∙ stands) due)

  -- another item stands there, or none
  pub differs-here :
      (x : Command) → FoundDue all t next (Some x) → (slice_get items at ≡ Some (Cmd x) → ⊥)
      → (place ≤ at) × DiffersFirstAt (drop place items) (tick_of all t) (at - place)
  differs-here x found other =
      let due = command-due (due_at all t) (next - start) x (walk-here h (Some x) found) in
      let left = walk-left h x found in
      let whole = length-tick_of-due all t in
      let e : at - place ≡ next - start = omega arith in
      (omega arith, rw e (record { same = so_far; some_due = omega arith; other = λ same. other (sym here ∙ same ∙ due) }))

  module _ (done : FoundDue all t next None) where
    beat : slice_get (tick_of all t) (next - start) ≡ Some Beat
    beat = ap (slice_get (tick_of all t)) (walk-done h done).1.1 ∙ beat-due (due_at all t)

    -- the beat stands there too
    pub stands-whole : slice_get items at ≡ Some Beat → IsPrefix (tick_of all t) (drop place items)
    stands-whole stands =
        let n = next - start in
        let count = (walk-done h done).1.1 in
        let whole = length-tick_of-due all t in
        let same = same-more (drop place items) (tick_of all t) (next - start) Beat so_far (here ∙ stands) beat in (
          drop ((next - start) + 1) (drop place items),
          sym (take-append-drop ((next - start) + 1) (drop place items))
              ∙ ap (λ (l : List Item). l ++ drop ((next - start) + 1) (drop place items)) (same ∙ take_all ((next - start) + 1) (tick_of all t) (omega arith)),
        )

    -- or another item, or none
    pub differs-last :
        (slice_get items at ≡ Some Beat → ⊥)
        → (place ≤ at) × DiffersFirstAt (drop place items) (tick_of all t) (at - place)
    differs-last other =
        let count = (walk-done h done).1.1 in
        let whole = length-tick_of-due all t in
        let e : at - place ≡ next - start = omega arith in
        (omega arith, rw e (record { same = so_far; some_due = omega arith; other = λ same. other (sym here ∙ same ∙ beat) }))
