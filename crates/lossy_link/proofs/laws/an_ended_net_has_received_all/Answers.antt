use Rattle.std.proofs.Common.{◌≡◌, ℕ, zero, suc, List, [], ◌∷◌, Some, subst}
use Rattle.std.specs.Prelude.{slice_get}
use Rattle.std.specs.List.{AllByRecursion}
use Rattle.lossy_link.proofs.laws.an_ended_net_has_received_all.Goals as goal

all-got : {X : Type 0} (P : X → Type 0) (xs : List X) (i : ℕ) (x : X) → AllByRecursion P xs → slice_get xs i ≡ Some x → P x
all-got P [] i x all got = absurd cc
all-got P (y ∷ ys) zero x all got = let same : y ≡ x = cc in subst P same all.0
all-got P (y ∷ ys) (suc i) x all got = all-got P ys i x all.1 got

pub returns : goal.returns
returns g c = record {
  links = λ x opening n from to h there its. h.whole from to there its;
  count = λ x opening n h. (h.count, h.differ);
  once = λ x opening n mirror s from number h at. (all-got _ n.mirrors mirror s h.mirrors at).once from number;
  worlds = λ x opening n mirror s h at none. (all-got _ n.mirrors mirror s h.mirrors at).worlds none;
  played = λ x opening n mirror s h at. (all-got _ n.mirrors mirror s h.mirrors at).played;
}
