-- Which ticks are cached after looks.
use Rattle.std.proofs.Common.{◌≡◌, ℕ, zero, suc, ◌+◌, ◌-◌, ◌<◌, ◌≤◌, Bool, true, false, cond, List, [], ◌∷◌, length, take, nat_lt, ◌&&◌, ◌||◌, refl, ap, sym, ◌∙◌, arith}
use Rattle.std.specs.Prelude.{◌==◌}
use Rattle.std.proofs.lemmas.Bool.Decides.{nat_tests}
use Rattle.std.proofs.lemmas.Bool.{eqb-true}
use Rattle.std.proofs.lemmas.List.{take_all, length-take}
use native.Mathlib.Numerals.{unary_clauses}
use Rattle.game_trait.specs.Count.{times}
use Rattle.rewind_store.specs.Cached.{is_cached, without, put_in_front, after_look, cached_after, each_once, looks_since}
use Rattle.rewind_store.specs.Rewound.{hits_of}

module _ (t : ℕ) where
  -- a tick among the first is taken out of them
  take-without : (n : ℕ) (us : List ℕ) → is_cached t (take (suc n) us) ≡ true → without t (take (suc n) us) ≡ take n (without t us)
  unfolding without
  take-without n [] h = absurd cc
  take-without zero (u ∷ us) h = (elim (t == u) as (λ v. (t == u) ≡ v → without t (u ∷ []) ≡ []) [
    | true ↦ λ e. rw e refl
    | false ↦ λ e. absurd (let no = rw e at h in cc)
  ]) refl
  take-without (suc n) (u ∷ us) h = (elim (t == u) as (λ v. (t == u) ≡ v → without t (u ∷ take (suc n) us) ≡ take (suc n) (without t (u ∷ us))) [
    | true ↦ λ e. rw e refl
    | false ↦ λ e. (let rest = rw e at h in rw e (ap (λ (l : List ℕ). u ∷ l) (take-without n us rest)))
  ]) refl

  -- one that isn't among the first leaves those before them
  take-beyond : (n : ℕ) (us : List ℕ) → is_cached t (take (suc n) us) ≡ false → take n (without t us) ≡ take n us
  unfolding without
  take-beyond n [] h = refl
  take-beyond zero (u ∷ us) h = refl
  take-beyond (suc n) (u ∷ us) h = (elim (t == u) as (λ v. (t == u) ≡ v → take (suc n) (without t (u ∷ us)) ≡ u ∷ take n us) [
    | true ↦ λ e. absurd (let no = rw e at h in cc)
    | false ↦ λ e. (let rest = rw e at h in rw e (ap (λ (l : List ℕ). u ∷ l) (take-beyond n us rest)))
  ]) refl

  -- a list of few ticks, as far as it is taken
  take-few : (n : ℕ) (us : List ℕ) → cond (length (take (suc n) us) == suc n) (take n (take (suc n) us)) (take (suc n) us) ≡ take n us
  take-few n us = (elim (length (take (suc n) us) == suc n) as (λ v. (length (take (suc n) us) == suc n) ≡ v → cond v (take n (take (suc n) us)) (take (suc n) us) ≡ take n us) [
    | true ↦ λ e. take-take n us
    | false ↦ λ e. (let long = length-take (suc n) us in let few : length us ≤ n = grind (arith, nat_tests) in take_all (suc n) us (omega arith) ∙ sym (take_all n us few))
  ]) refl
    where
      take-take : (n : ℕ) (us : List ℕ) → take n (take (suc n) us) ≡ take n us
      take-take zero us = refl
      take-take (suc n) [] = refl
      take-take (suc n) (u ∷ us) = ap (λ (l : List ℕ). u ∷ l) (take-take n us)

  -- a look puts its tick in front of the others
  looked : (n : ℕ) (us : List ℕ) → after_look (suc n) t true (take (suc n) us) ≡ t ∷ take n (without t us)
  unfolding after_look put_in_front
  looked n us = (elim (is_cached t (take (suc n) us)) as (λ v. is_cached t (take (suc n) us) ≡ v → after_look (suc n) t true (take (suc n) us) ≡ t ∷ take n (without t us)) [
    | true ↦ λ e. rw e (ap (λ (l : List ℕ). t ∷ l) (take-without n us e))
    | false ↦ λ e. rw e (ap (λ (l : List ℕ). t ∷ l) (simp unary_clauses (take-few n us) ∙ sym (take-beyond n us e)))
  ]) refl

-- those that are cached are the ticks that were looked at last
pub cached-order : (room : ℕ) (looks : List ℕ) → 0 < room → cached_after room looks ≡ take room (each_once looks)
unfolding cached_after each_once
cached-order zero looks some = absurd (omega (arith, some))
cached-order (suc n) [] some = refl
cached-order (suc n) (t ∷ before) some = ap (λ (l : List ℕ). after_look (suc n) t true l) (cached-order (suc n) before some) ∙ looked t n (each_once before)

-- ---- whether a tick is among them

module _ (t : ℕ) where
  -- another tick taken out
  cached-without : (u : ℕ) (us : List ℕ) → (t == u) ≡ false → is_cached t (without u us) ≡ is_cached t us
  unfolding without
  cached-without u [] other = refl
  cached-without u (v ∷ us) other = (elim (u == v) as (λ b. (u == v) ≡ b → is_cached t (without u (v ∷ us)) ≡ is_cached t (v ∷ us)) [
    | true ↦ λ e. (let apart : (t == v) ≡ false = grind (arith, nat_tests) in rw (e, apart) refl)
    | false ↦ λ e. rw e (ap (λ (b : Bool). (t == v) || b) (cached-without u us other))
  ]) refl

  since-without : (u : ℕ) (us : List ℕ) → (t == u) ≡ false → looks_since t (without u us) ≡ without u (looks_since t us)
  unfolding without looks_since
  since-without u [] other = refl
  since-without u (v ∷ us) other = (elim (u == v) as (λ b. (u == v) ≡ b → looks_since t (without u (v ∷ us)) ≡ without u (looks_since t (v ∷ us))) [
    | true ↦ λ e. (let apart : (t == v) ≡ false = grind (arith, nat_tests) in rw (e, apart) (rw e refl))
    | false ↦ λ e. rw e ((elim (t == v) as (λ b. (t == v) ≡ b → looks_since t (v ∷ without u us) ≡ without u (looks_since t (v ∷ us))) [
      | true ↦ λ f. rw f refl
      | false ↦ λ f. rw f (rw e (ap (λ (l : List ℕ). v ∷ l) (since-without u us other)))
    ]) refl)
  ]) refl

  -- of a list of ticks those in front of one
  pub since-once : (looks : List ℕ) → looks_since t (each_once looks) ≡ each_once (looks_since t looks)
  unfolding each_once looks_since
  since-once [] = refl
  since-once (u ∷ before) = (elim (t == u) as (λ b. (t == u) ≡ b → looks_since t (each_once (u ∷ before)) ≡ each_once (looks_since t (u ∷ before))) [
    | true ↦ λ e. rw e refl
    | false ↦ λ e. rw e (ap (λ (l : List ℕ). u ∷ l) (since-without u (each_once before) e ∙ ap (without u) (since-once before)))
  ]) refl

  pub cached-once : (looks : List ℕ) → is_cached t (each_once looks) ≡ is_cached t looks
  unfolding each_once
  cached-once [] = refl
  cached-once (u ∷ before) = (elim (t == u) as (λ b. (t == u) ≡ b → is_cached t (each_once (u ∷ before)) ≡ is_cached t (u ∷ before)) [
    | true ↦ λ e. rw e refl
    | false ↦ λ e. rw e (cached-without u (each_once before) e ∙ cached-once before)
  ]) refl

  never : (a b : Bool) → b ≡ false → false ≡ (a && b)
  never true b none = sym none
  never false b none = refl

  -- among the first of a list, by how many stand in front of it
  cached-take : (n : ℕ) (us : List ℕ) → is_cached t (take n us) ≡ (is_cached t us && nat_lt (length (looks_since t us)) n)
  unfolding looks_since
  cached-take zero [] = refl
  cached-take (suc n) [] = refl
  cached-take zero (u ∷ us) = never (is_cached t (u ∷ us)) _ (grind (arith, nat_tests))
  cached-take (suc n) (u ∷ us) = (elim (t == u) as (λ b. (t == u) ≡ b → is_cached t (take (suc n) (u ∷ us)) ≡ (is_cached t (u ∷ us) && nat_lt (length (looks_since t (u ∷ us))) (suc n))) [
    | true ↦ λ e. rw e (grind (arith, nat_tests))
    | false ↦ λ e. rw e (cached-take n us ∙ ap (λ (b : Bool). is_cached t us && b) (grind (arith, nat_tests)))
  ]) refl

  pub cached-exact : (room : ℕ) (looks : List ℕ) → 0 < room → is_cached t (cached_after room looks) ≡ (is_cached t looks && nat_lt (length (each_once (looks_since t looks))) room)
  cached-exact room looks some =
      ap (is_cached t) (cached-order room looks some) ∙ cached-take room (each_once looks)
      ∙ (λ i. cached-once looks i && nat_lt (length (since-once looks i)) room)

  -- ---- each once

  none-more : (n : ℕ) → n ≡ 0 + n
  none-more n = omega arith

  none-less : (n m : ℕ) → n ≡ m - 1 → 0 + n ≡ (0 + m) - 1
  none-less n m is = omega (arith, is)

  times-without : (us : List ℕ) → times (λ u. t == u) (without t us) ≡ times (λ u. t == u) us - 1
  unfolding times without
  times-without [] = refl
  times-without (u ∷ us) = (elim (t == u) as (λ b. (t == u) ≡ b → times (λ u. t == u) (without t (u ∷ us)) ≡ times (λ u. t == u) (u ∷ us) - 1) [
    | true ↦ λ e. rw e (omega arith)
    | false ↦ λ e. rw e (rw e (none-less _ _ (times-without us)))
  ]) refl

  times-other : (v : ℕ) (us : List ℕ) → (t == v) ≡ false → times (λ u. t == u) (without v us) ≡ times (λ u. t == u) us
  unfolding times without
  times-other v [] other = refl
  times-other v (u ∷ us) other = (elim (v == u) as (λ b. (v == u) ≡ b → times (λ u. t == u) (without v (u ∷ us)) ≡ times (λ u. t == u) (u ∷ us)) [
    | true ↦ λ e. (let apart : (t == u) ≡ false = grind (arith, nat_tests) in rw (e, apart) (none-more _))
    | false ↦ λ e. rw e (ap (λ (n : ℕ). cond (t == u) 1 0 + n) (times-other v us other))
  ]) refl

  pub times-once : (looks : List ℕ) → times (λ u. t == u) (each_once looks) ≡ cond (is_cached t looks) 1 0
  unfolding times each_once
  times-once [] = refl
  times-once (u ∷ before) = (elim (t == u) as (λ b. (t == u) ≡ b → times (λ v. t == v) (each_once (u ∷ before)) ≡ cond (is_cached t (u ∷ before)) 1 0) [
    | true ↦ λ e. (let is : t ≡ u = eqb-true t u e in let less = times-without (each_once before) in let rest = times-once before in rw (e, sym is) (one (is_cached t before) _ _ less rest))
    | false ↦ λ e. rw e (sym (none-more _) ∙ times-other u (each_once before) e ∙ times-once before)
  ]) refl
    where
      one : (b : Bool) (less all : ℕ) → less ≡ all - 1 → all ≡ cond b 1 0 → let n : ℕ = 1 in n + less ≡ n
      one true less all is rest = omega (arith, is, rest)
      one false less all is rest = omega (arith, is, rest)

-- a look hits where fewer others than there is room for were looked at since the last at its tick
pub hits-more :
    (room t : ℕ) (before ts : List ℕ) → 0 < room
    → hits_of room (cached_after room before) (t ∷ ts)
    ≡ cond (is_cached t before && nat_lt (length (each_once (looks_since t before))) room) 1 0 + hits_of room (cached_after room (t ∷ before)) ts
unfolding hits_of cached_after
hits-more room t before ts some = ap (λ (hit : Bool). cond hit 1 0 + hits_of room (after_look room t true (cached_after room before)) ts) (cached-exact t room before some)
