-- Marks of worlds that have one sum at each tick never differ.
use Rattle.std.proofs.Common.{◌≡◌, ℕ, zero, suc, ◌-◌, Bool, true, false, cond, not, ◌==◌, ◌&&◌, Option, Some, None, List, [], ◌∷◌, ◌++◌, length, drop, refl, ap, sym, ◌∙◌}
use Rattle.std.specs.Prelude.{IfSome}
use Rattle.std.specs.List.{AllByRecursion, list_any}
use Rattle.std.proofs.lemmas.Bool.{or_from, eqb-true, eq-eqb}
use Rattle.game_trait.proofs.Lists.{all-append}
use Rattle.peer_model.specs.declared.mark.Mark.{Mark}
use Rattle.peer_model.specs.Marks.{Marks, differ, if_differs, seen, marked, is_newer, hears_mark, no_marks, IsOf, AreOf}
use Rattle.peer_model.proofs.Peers.{put-all}

same-sum : (sums : ℕ → ℕ) (a b : Mark) → IsOf sums a → IsOf sums b → differ a b ≡ false
same-sum sums a b left right =
    elim (a.tick == b.tick) as (λ v. (a.tick == b.tick) ≡ v → (v && not (a.sum == b.sum)) ≡ false) [
      | true ↦ λ e. (let at : a.tick ≡ b.tick = eqb-true a.tick b.tick e in
          let one : a.sum ≡ b.sum = left ∙ ap sums at ∙ sym right in
          ap not (eq-eqb a.sum b.sum one))
      | false ↦ λ e. refl
    ]
    refl

none-differs : (sums : ℕ → ℕ) (x : Mark) (own : List Mark) → IsOf sums x → AllByRecursion (IsOf sums) own → list_any (differ x) own ≡ false
none-differs sums x [] is h = refl
none-differs sums x (y ∷ ys) is h = or_from (differ x y) (list_any (differ x) ys) (same-sum sums x y is h.0) (none-differs sums x ys is h.1)

newest-same : (sums : ℕ → ℕ) (x : Mark) (y : Option Mark) → IsOf sums x → IfSome y (IsOf sums) → if_differs x y ≡ false
newest-same sums x None is h = refl
newest-same sums x (Some y) is h = same-sum sums x y is h

drop-all : (P : Mark → Type 0) (n : ℕ) (xs : List Mark) → AllByRecursion P xs → AllByRecursion P (drop n xs)
drop-all P zero xs h = h
drop-all P (suc n) [] h = tt
drop-all P (suc n) (x ∷ xs) h = drop-all P n xs h.1

newer-is : (sums : ℕ → ℕ) (x : Mark) (y : Option Mark) (b : Bool) → IsOf sums x → IfSome y (IsOf sums) → IfSome (cond b (Some x) y) (IsOf sums)
newer-is sums x y true is h = is
newer-is sums x y false is h = h

pub marked-of : (sums : ℕ → ℕ) (x : Mark) (m : Marks) → IsOf sums x → AreOf sums m → AreOf sums (marked x m)
marked-of sums x m is h =
    record {
      own = (let all = all-append (IsOf sums) m.own (x ∷ []) h.own (is, tt) in drop-all (IsOf sums) (length (m.own ++ x ∷ []) - 64) (m.own ++ x ∷ []) all);
      newest = h.newest;
      none_differs = λ j. ap (λ (b : Bool). seen b x.tick (m.differs j)) (newest-same sums x (m.newest j) is (h.newest j)) ∙ h.none_differs j;
    }

pub hears-of : (sums : ℕ → ℕ) (j : ℕ) (x : Mark) (m : Marks) → IsOf sums x → AreOf sums m → AreOf sums (hears_mark j x m)
hears-of sums j x m is h =
    record {
      own = h.own;
      newest = put-all (λ k y. IfSome y (IsOf sums)) j (cond (is_newer x (m.newest j)) (Some x) (m.newest j)) m.newest
          (newer-is sums x (m.newest j) (is_newer x (m.newest j)) is (h.newest j)) h.newest;
      none_differs = put-all (λ k t. t ≡ None) j (seen (list_any (differ x) m.own) x.tick (m.differs j)) m.differs
          (ap (λ (b : Bool). seen b x.tick (m.differs j)) (none-differs sums x m.own is h.own) ∙ h.none_differs j) h.none_differs;
    }

pub none-of : (sums : ℕ → ℕ) → AreOf sums no_marks
none-of sums = record { own = tt; newest = λ j. tt; none_differs = λ j. refl }
