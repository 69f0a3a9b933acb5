use Rattle.std.proofs.Common.{◌≡◌, ◌<◌, ◌+◌, ◌⊎◌, inl, inr, ℕ, zero, suc, List, [], ◌∷◌, ◌++◌, Some, subst, arith}
use Rattle.std.specs.Prelude.{slice_get}
use Rattle.link_ring.specs.declared.receive.LinkReceive.{LinkReceive}
use Rattle.link_ring.specs.declared.message.Message.{Message}
use Rattle.copy_workers.specs.Fed.{Receives, AllReceive}
use Rattle.std.specs.List.{AllByRecursion}
use Rattle.game_trait.specs.Count.{times}
use Rattle.game_trait.proofs.Counts.{times-append}
use Rattle.game_trait.specs.Events.{is_moved}
use Rattle.sync_model.specs.Schedule.{clock_end}
use Rattle.copy_workers.specs.declared.post.Asked.{Asked}
use Rattle.copy_workers.specs.Asking.{moves_in}
use Rattle.copy_workers.specs.Feeding.{GoesOn, joined}
use Rattle.copy_workers.proofs.laws.a_feeder_ends_where_it_is_done.Goals as goal

early : (clock last turns budget : ℕ) → (clock ≡ last) ⊎ (turns ≡ budget) → turns < budget → clock < last → ⊥
early clock last turns budget (inl all) few going = omega arith
early clock last turns budget (inr spent) few going = omega arith

late : (last clock : ℕ) (front rest : List (List Asked)) (turn : List Asked) → GoesOn last clock (front ++ turn ∷ rest) → clock + moves_in (joined front) < last
unfolding GoesOn joined times
late last clock [] rest turn runs = let below = runs.0 in omega arith
late last clock (t ∷ front) rest turn runs =
    omega (arith, late last (clock + moves_in t) front rest turn runs.1, times-append (λ p. is_moved p.reply) t (joined front))

all-behind : {X : Type 0} (P : X → Type 0) (front rest : List X) (x : X) → AllByRecursion P (front ++ x ∷ rest) → P x
all-behind P [] rest x all = all.0
all-behind P (y ∷ front) rest x all = all-behind P front rest x all.1

at-place : (turns : ℕ) (xs ys : List LinkReceive) (gots : List (List Message)) (place : ℕ) (a b : LinkReceive) (got : List Message)
    → AllReceive turns xs ys gots → slice_get xs place ≡ Some a → slice_get ys place ≡ Some b → slice_get gots place ≡ Some got → Receives turns a b got
unfolding AllReceive
at-place turns [] ys gots place a b got all x y z = absurd cc
at-place turns (x0 ∷ xs) [] gots place a b got all x y z = absurd cc
at-place turns (x0 ∷ xs) (y0 ∷ ys) [] place a b got all x y z = absurd cc
at-place turns (x0 ∷ xs) (y0 ∷ ys) (g0 ∷ gots) zero a b got all x y z =
    let p : x0 ≡ a = cc in
    let q : y0 ≡ b = cc in
    let r : g0 ≡ got = cc in
    subst (λ (v : LinkReceive). Receives turns v b got) p
    (subst (λ (v : LinkReceive). Receives turns x0 v got) q
    (subst (λ (v : List Message). Receives turns x0 y0 v) r all.0))
at-place turns (x0 ∷ xs) (y0 ∷ ys) (g0 ∷ gots) (suc place) a b got all x y z =
    at-place turns xs ys gots place a b got all.1 x y z

pub returns : goal.returns
returns c = record {
  early = λ job end before after h few going. early end.clock _ end.turns job.budget h.ends few going;
  turns = λ job end before after h. (h.asks, h.pieces, h.count, h.within, h.clock);
  late = λ job end before after h front rest turn whole. omega (arith, late (clock_end job.stagger) 0 front rest turn (rw whole at h.going));
  single = λ job end before after h front rest turn whole. all-behind _ front rest turn (rw whole at h.single);
  alone = λ job end before after h none. h.alone none;
  held = λ job end before after h front turn whole none below. (let k = h.held front turn whole none below in let first = k.0 in (k.1, omega arith));
  few = λ job end before after h orderly fits. (h.fair orderly fits).few;
  issued = λ job end before after h. (h.least, h.most, h.issued);
  asked = λ job end before after h place first now got x y z.
      let r = at-place end.turns job.receives.items end.receives.items h.gots place first now got h.receives x y z in
      (r.received, r.rises, r.each, r.least);
}
