-- Lines that are counted one by one.
use Rattle.std.proofs.Common.{◌≡◌, ℕ, zero, suc, [], ◌∷◌, ◌+◌, ◌<◌, ◌≤◌, Bool, true, false, cond, List, length, drop, get_or, add-one, refl, arith, lit≤}
use Rattle.std.proofs.Math.Seq.{drop-cons}
use Rattle.game_trait.specs.Count.{times}

pub counted_more : {X : Type 0} (p : X → Bool) (xs : List X) (i : ℕ) (d : X) → i < length xs → times p (drop i xs) ≡ cond (p (get_or xs i d)) 1 0 + times p (drop (i + 1) xs)
unfolding times
counted_more p xs i d lt = rw (add-one, drop-cons xs i d lt) refl

pub one_at_most : (b : Bool) → cond b 1 0 ≤ 1
one_at_most true = lit≤ tt
one_at_most false = lit≤ tt

pub counted_all : {X : Type 0} (p : X → Bool) (xs : List X) (i : ℕ) → length xs ≤ i → times p (drop i xs) ≡ 0
unfolding times
counted_all p [] zero le = refl
counted_all p [] (suc i) le = refl
counted_all p (x ∷ xs) zero le = absurd (omega arith)
counted_all p (x ∷ xs) (suc i) le = counted_all p xs i (omega arith)
