use Rattle.std.proofs.Common.{◌≡◌, ◌<◌, ◌⊎◌, inl, inr, ℕ, zero, suc, List, [], ◌∷◌, ◌++◌, length, map, Some, sym, ap, subst, ◌∙◌, arith}
use Rattle.std.specs.Prelude.{slice_get, slice_index_or}
use Rattle.std.specs.List.{AllByRecursion, Contains}
use Rattle.turn_lock.specs.declared.history.Entry.{Entry}
use Rattle.turn_lock.specs.declared.view.Member.{Member}
use Rattle.turn_lock.specs.Histories.{value}
use Rattle.turn_lock.proofs.laws.a_history_is_of_its_seats.Goals as goal

all-got : {X : Type 0} (P : X → Type 0) (xs : List X) (i : ℕ) (x : X) → AllByRecursion P xs → slice_get xs i ≡ Some x → P x
all-got P [] i x all got = absurd cc
all-got P (y ∷ ys) zero x all got = let same : y ≡ x = cc in subst P same all.0
all-got P (y ∷ ys) (suc i) x all got = all-got P ys i x all.1 got

all-behind : {X : Type 0} (P : X → Type 0) (front rest : List X) (x : X) → AllByRecursion P (front ++ x ∷ rest) → P x
all-behind P [] rest x all = all.0
all-behind P (y ∷ front) rest x all = all-behind P front rest x all.1

unseen-at : {C R : Type 0} (seats : List (Member C R)) (k : ℕ) (log : List (Entry C R))
    → AllByRecursion (λ m. m.seen ≡ []) seats → k < length (map (λ (m : Member C R). m.seen) seats)
    → slice_index_or (map (λ (m : Member C R). m.seen) seats) k log ≡ log → log ≡ []
unseen-at [] k log all few at = absurd (omega arith)
unseen-at (m ∷ seats) zero log all few at = sym at ∙ all.0
unseen-at (m ∷ seats) (suc k) log all few at = unseen-at seats k log all.1 (omega arith) at

no-log : {C R : Type 0} (seats : List (Member C R)) (log : List (Entry C R)) → AllByRecursion (λ m. m.seen ≡ []) seats → (log ≡ []) ⊎ Contains (map (λ (m : Member C R). m.seen) seats) log → log ≡ []
no-log seats log all (inl none) = none
no-log seats log all (inr some) = unseen-at seats some.0 log all some.1 some.2

pub returns : goal.returns
returns g c = record {
  object = λ opening object seats h. (h.object_is, h.sound);
  theirs = λ opening object seats h front rest e whole. all-behind _ front rest e (rw whole at h.theirs);
  seen = λ opening object seats h place m at. (let k = all-got _ seats place m h.fronts at in ((k.0.0, sym k.0.1), k.1));
  unseen = λ opening object seats h all. (let none = no-log seats h.log all h.longest in (none, h.object_is ∙ ap (value g.H.Held.rules opening) none));
}
