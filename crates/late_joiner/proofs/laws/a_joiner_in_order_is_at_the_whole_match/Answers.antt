use Rattle.std.proofs.Common.{◌≡◌, ℕ, zero, suc, List, [], ◌∷◌, Some, subst}
use Rattle.std.specs.Prelude.{slice_get}
use Rattle.std.specs.List.{AllByRecursion}
use Rattle.late_joiner.proofs.laws.a_joiner_in_order_is_at_the_whole_match.Goals as goal

all-got : {X : Type 0} (P : X → Type 0) (xs : List X) (i : ℕ) (x : X) → AllByRecursion P xs → slice_get xs i ≡ Some x → P x
all-got P [] i x all got = absurd cc
all-got P (y ∷ ys) zero x all got = let same : y ≡ x = cc in subst P same all.0
all-got P (y ∷ ys) (suc i) x all got = all-got P ys i x all.1 got

pub returns : goal.returns
returns g c = record {
  order = λ s copy run all at. all-got _ s.inner.runs copy run all at;
  snapshot = λ snap ticks s h. (h.opening, h.start, h.passed, h.length, h.rest);
  alike = λ t s copy other run its all at there. all-got _ s.inner.runs other its (all-got _ t.runs copy run all at) there;
}
