use Rattle.std.proofs.Common.{◌≡◌, ℕ, zero, suc, List, [], ◌∷◌, Some, subst}
use Rattle.std.specs.Prelude.{slice_get}
use Rattle.std.specs.List.{AllByRecursion}
use Rattle.race_hall.proofs.laws.raced_mirrors_have_every_command.Goals as goal

all-got : {X : Type 0} (P : X → Type 0) (xs : List X) (i : ℕ) (x : X) → AllByRecursion P xs → slice_get xs i ≡ Some x → P x
all-got P [] i x all got = absurd cc
all-got P (y ∷ ys) zero x all got = let same : y ≡ x = cc in subst P same all.0
all-got P (y ∷ ys) (suc i) x all got = all-got P ys i x all.1 got

pub returns : goal.returns
returns g c = record {
  count = λ m opening mirrors h. h.count;
  once = λ m opening mirrors number t test h at. (let k = all-got _ mirrors number t h.each at in (k.once test, k.turned));
  worlds = λ m opening mirrors number t h at. (let k = all-got _ mirrors number t h.each at in (k.drained, k.worlds));
  history = λ m opening mirrors number t h at. (let k = all-got _ mirrors number t h.each at in (k.legal, k.from_history));
  opened = λ m opening mirrors number t h at. (let k = all-got _ mirrors number t h.each at in (k.same_opening, k.same_length, k.same_plans, k.same_plan, k.unchanged));
}
