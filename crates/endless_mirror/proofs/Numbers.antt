-- A mirror's own numbers go round.
use Rattle.std.proofs.Common.{◌≡◌, ℕ, ◌+◌, ◌-◌, ◌*◌, ◌/◌, ◌≤◌, ◌&&◌, true, false, cond, eqb, leb, List, [], ◌∷◌, refl, ap, sym, ◌∙◌, arith}
use Rattle.std.proofs.lemmas.Bool.{and_parts, ltb-true}
use Rattle.std.proofs.lemmas.Bool.Decides.{nat_tests}
use Rattle.game_trait.specs.declared.command.Act.{Act}
use Rattle.game_trait.specs.declared.limits.TheConstants.{GREATEST_NUMBER}
use Rattle.game_trait.specs.Game.{Rules}
use Rattle.live_text.specs.Requests.{FitsTerms}
use Rattle.live_text.specs.declared.request.Request.{Request}
use Rattle.live_text.specs.declared.request.Request.TheVariants.{Own, Cmd, Tick, Turn, Step, Restagger, World, Run, Commands, End}
use Rattle.endless_mirror.specs.Numbers.{number_moved, numbers_moved}
use Rattle.endless_mirror.specs.Session.{SessionState, is_past, terms_of, number_behind, circle, how_far, is_ahead, next_after, after_request}
use Rattle.endless_mirror.specs.Talk.{after_requests, FitAlong}

-- the number behind one that stands so far ahead, some rounds on
behind-round : (next n : ℕ) → next ≤ GREATEST_NUMBER → n ≤ GREATEST_NUMBER → (k : ℕ) × (next + (how_far next n + 1) ≡ number_behind n + k * circle)
behind-round next n few upto =
    elim (leb next n) as (λ v. leb next n ≡ v → (k : ℕ) × (next + (cond {A = ℕ} v (n - next) ((n + circle) - next) + 1) ≡ number_behind n + k * circle)) [
      | true ↦ λ e.
          elim (leb GREATEST_NUMBER n) as (λ u. leb GREATEST_NUMBER n ≡ u → (k : ℕ) × (next + ((n - next) + 1) ≡ cond {A = ℕ} u 0 (n + 1) + k * circle))
          [ true ↦ λ f. (1, grind (arith, nat_tests)) | false ↦ λ f. (0, grind (arith, nat_tests)) ] refl
      | false ↦ λ e.
          elim (leb GREATEST_NUMBER n) as (λ u. leb GREATEST_NUMBER n ≡ u → (k : ℕ) × (next + (((n + circle) - next) + 1) ≡ cond {A = ℕ} u 0 (n + 1) + k * circle))
          [ true ↦ λ f. (2, grind (arith, nat_tests)) | false ↦ λ f. (1, grind (arith, nat_tests)) ] refl
    ] refl

own-round : (n : ℕ) → n ≤ GREATEST_NUMBER → (k : ℕ) × (n + 1 ≡ number_behind n + k * circle)
own-round n few =
    elim (leb GREATEST_NUMBER n) as (λ u. leb GREATEST_NUMBER n ≡ u → (k : ℕ) × (n + 1 ≡ cond {A = ℕ} u 0 (n + 1) + k * circle))
    [ true ↦ λ f. (1, grind (arith, nat_tests)) | false ↦ λ f. (0, omega arith) ] refl

behind-few : (n : ℕ) → number_behind n ≤ GREATEST_NUMBER
behind-few n = grind (arith, nat_tests)

module _ {W : Type 0} where
  one-moved : (s : SessionState W) (r : Request) → s.next ≤ GREATEST_NUMBER → FitsTerms (terms_of s) r → (k : ℕ) × (s.next + number_moved s r ≡ next_after s r + k * circle)
  unfolding number_moved next_after
  one-moved s (Own player act) few fits =
      elim (is_past s) as (λ v. (k : ℕ) × (s.next + cond {A = ℕ} v 0 1 ≡ cond {A = ℕ} v s.next (number_behind s.next) + k * circle))
      [ true ↦ (0, omega arith) | false ↦ own-round s.next few ]
  one-moved s (Cmd x) few fits =
      elim (eqb x.from s.number && is_ahead s.next x.number) as (λ v. (k : ℕ) × (s.next + cond {A = ℕ} v (how_far s.next x.number + 1) 0 ≡ cond {A = ℕ} v (number_behind x.number) s.next + k * circle))
      [ true ↦ behind-round s.next x.number few fits.2 | false ↦ (0, omega arith) ]
  one-moved s Tick few fits = (0, omega arith)
  one-moved s Turn few fits = (0, omega arith)
  one-moved s (Step copy) few fits = (0, omega arith)
  one-moved s (Restagger plan) few fits = (0, omega arith)
  one-moved s (World copy) few fits = (0, omega arith)
  one-moved s (Run copy) few fits = (0, omega arith)
  one-moved s Commands few fits = (0, omega arith)
  one-moved s End few fits = (0, omega arith)

  next-few : (s : SessionState W) (r : Request) → s.next ≤ GREATEST_NUMBER → next_after s r ≤ GREATEST_NUMBER
  unfolding next_after
  next-few s (Own player act) few =
      elim (is_past s) as (λ v. cond {A = ℕ} v s.next (number_behind s.next) ≤ GREATEST_NUMBER) [ true ↦ few | false ↦ behind-few s.next ]
  next-few s (Cmd x) few =
      elim (eqb x.from s.number && is_ahead s.next x.number) as (λ v. cond {A = ℕ} v (number_behind x.number) s.next ≤ GREATEST_NUMBER) [ true ↦ behind-few x.number | false ↦ few ]
  next-few s Tick few = few
  next-few s Turn few = few
  next-few s (Step copy) few = few
  next-few s (Restagger plan) few = few
  next-few s (World copy) few = few
  next-few s (Run copy) few = few
  next-few s Commands few = few
  next-few s End few = few

  pub moved-along :
      (rules : Rules W) (rs : List Request) (s : SessionState W) → s.next ≤ GREATEST_NUMBER → FitAlong rules s rs
      → (k : ℕ) × (s.next + numbers_moved rules s rs ≡ (after_requests rules s rs).next + k * circle)
  unfolding numbers_moved after_requests FitAlong
  moved-along rules [] s few fits = (0, omega arith)
  moved-along rules (r ∷ rs) s few fits =
      let here = one-moved s r few fits.0 in
      let more = moved-along rules rs (after_request rules s r) (next-few s r few) fits.1 in
      let a = here.1 in
      let b = more.1 in
      (here.0 + more.0, omega arith)

  pub own-moves : (s : SessionState W) (player : ℕ) (act : Act) → is_past s ≡ false → number_moved s (Own player act) ≡ 1
  unfolding number_moved
  own-moves s player act here = rw here refl

  pub moves-less : (s : SessionState W) (r : Request) → number_moved s r ≤ circle / 2
  unfolding number_moved
  moves-less s (Own player act) = elim (is_past s) as (λ v. cond {A = ℕ} v 0 1 ≤ circle / 2) [ true ↦ omega arith | false ↦ omega arith ]
  moves-less s (Cmd x) =
      elim (eqb x.from s.number && is_ahead s.next x.number) as (λ v. eqb x.from s.number && is_ahead s.next x.number ≡ v → cond {A = ℕ} v (how_far s.next x.number + 1) 0 ≤ circle / 2) [
        | true ↦ λ e. (let less = ltb-true (how_far s.next x.number) (circle / 2) (and_parts _ _ e).1 in omega arith)
        | false ↦ λ e. omega arith
      ] refl
  moves-less s Tick = omega arith
  moves-less s Turn = omega arith
  moves-less s (Step copy) = omega arith
  moves-less s (Restagger plan) = omega arith
  moves-less s (World copy) = omega arith
  moves-less s (Run copy) = omega arith
  moves-less s Commands = omega arith
  moves-less s End = omega arith

  moves-some :
      (rules : Rules W) (s : SessionState W) (player : ℕ) (act : Act) (rs : List Request) → is_past s ≡ false
      → 1 ≤ numbers_moved rules s (Own player act ∷ rs)
  unfolding numbers_moved
  moves-some rules s player act rs here = (let one = own-moves s player act here in omega arith)

  pub far-apart :
      (rules : Rules W) (s : SessionState W) (player : ℕ) (act : Act) (rs : List Request) → s.next ≤ GREATEST_NUMBER
      → FitAlong rules s (Own player act ∷ rs) → is_past s ≡ false → (after_requests rules s (Own player act ∷ rs)).next ≡ s.next
      → circle ≤ numbers_moved rules s (Own player act ∷ rs)
  far-apart rules s player act rs few fits here again =
      let round = moved-along rules (Own player act ∷ rs) s few fits in
      let sum = round.1 in
      let some : 1 ≤ numbers_moved rules s (Own player act ∷ rs) = moves-some rules s player act rs here in
      omega arith
