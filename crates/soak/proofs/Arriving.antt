-- The commands that arrive at a mirror: each once, none twice, and in time.
use Rattle.std.proofs.Common.{◌≡◌, ℕ, zero, suc, ◌+◌, ◌-◌, ◌/◌, ◌≤◌, ◌<◌, Bool, true, false, ◌==◌, cond, List, [], ◌∷◌, ◌++◌, refl, sym, ap, subst, ◌∙◌, arith}
use Rattle.std.specs.List.{AllByRecursion, list_any}
use Rattle.std.proofs.lemmas.Bool.Decides.{nat_tests}
use Rattle.game_trait.specs.declared.command.Command.{Command}
use Rattle.game_trait.specs.Keys.{same_name, NamesDiffer}
use Rattle.game_trait.specs.Count.{times}
use Rattle.game_trait.proofs.Counts.{times-append}
use Rattle.game_trait.proofs.KeyOrder.{NamesDiffer-same, same_name-sym}
use Rattle.match_maker.specs.Below.{joined_below}
use Rattle.match_maker.specs.Generator.{command_at, lag}
use Rattle.match_maker.proofs.Lists.{joined_more, all_joined}
use Rattle.match_maker.proofs.Bounds.{lag-below}
use Rattle.match_maker.proofs.Sums.{sum_below, sum_swap, sum_equal}
use Rattle.match_maker.proofs.Sound.{NamesDiffer-made}
use Rattle.soak.specs.Soak.{arriving, fed_in, fed_until, all_commands}
use Rattle.game_trait.proofs.CommandLists.{NamesDiffer-front}

-- how often what passes stands in joined lists
times-joined : {X : Type 0} → (p : X → Bool) (f : ℕ → List X) (n : ℕ) → times p (joined_below f n) ≡ sum_below (λ j. times p (f j)) n
unfolding joined_below sum_below times
times-joined p f zero = refl
times-joined p f (suc n) = times-append p (joined_below f n) (f n) ∙ ap (λ k. k + times p (f n)) (times-joined p f n)

-- a number at one place of a sum and none elsewhere: none below it
weight_not_yet : (x k n : ℕ) → n ≤ x → sum_below (λ t. cond (x == t) k 0) n ≡ 0
unfolding sum_below
weight_not_yet x k zero h = refl
weight_not_yet x k (suc n) h =
    let e : (x == n) ≡ false = grind (arith, nat_tests) in
    rw e (let before = weight_not_yet x k n (omega (arith, h)) in omega (arith, before))

-- and it above it
weight_once : (x k n : ℕ) → x < n → sum_below (λ t. cond (x == t) k 0) n ≡ k
unfolding sum_below
weight_once x k zero h = absurd (omega (arith, h))
weight_once x k (suc n) h =
    elim (x == n) as (λ v. (x == n) ≡ v → sum_below (λ t. cond (x == t) k 0) n + cond v k 0 ≡ k) [
      | true ↦ λ e. let here : n ≤ x = grind (arith, nat_tests) in let before = weight_not_yet x k n here in omega (arith, before)
      | false ↦ λ e. let there : x < n = grind (arith, nat_tests) in let before = weight_once x k n there in omega (arith, before)
    ]
    refl

-- what passes of one command
times-arriving : (p : Command → Bool) (seed mirror tick j : ℕ)
    → times p (arriving seed mirror tick j) ≡ cond (j / 8 + lag seed j mirror == tick) (times p (command_at seed j ∷ [])) 0
unfolding arriving times
times-arriving p seed mirror tick j =
    elim (j / 8 + lag seed j mirror == tick) as (λ v. times p (cond v (command_at seed j ∷ []) []) ≡ cond v (times p (command_at seed j ∷ [])) 0)
    [ true ↦ refl | false ↦ refl ]

-- what arrives in all ticks are all commands, each as often
pub times-fed : (p : Command → Bool) (seed mirror : ℕ) → times p (all_commands seed) ≡ times p (fed_until seed mirror 544)
times-fed p seed mirror = sym (
    times-joined p (fed_in seed mirror) 544
    ∙ (sum_equal (λ tick. times p (fed_in seed mirror tick)) (λ tick. sum_below (λ j. times p (arriving seed mirror tick j)) 4096) 544
    (λ tick l. times-joined p (arriving seed mirror tick) 4096)
    ∙ (sum_swap (λ tick j. times p (arriving seed mirror tick j)) 544 4096
    ∙ (sum_equal (λ j. sum_below (λ tick. times p (arriving seed mirror tick j)) 544) (λ j. times p (command_at seed j ∷ [])) 4096
    (λ j l. sum_equal (λ tick. times p (arriving seed mirror tick j))
    (λ tick. cond (j / 8 + lag seed j mirror == tick) (times p (command_at seed j ∷ [])) 0) 544
    (λ tick m. times-arriving p seed mirror tick j)
    ∙ weight_once (j / 8 + lag seed j mirror) (times p (command_at seed j ∷ [])) 544 (omega (arith, l, lag-below seed j mirror)))
    ∙ sym (times-joined p (λ j. command_at seed j ∷ []) 4096)))))

-- what arrives in the first n ticks has different names
NamesDiffer-back : (seed mirror ticks more : ℕ) → NamesDiffer (fed_until seed mirror (ticks + more)) → NamesDiffer (fed_until seed mirror ticks)
NamesDiffer-back seed mirror ticks zero h = let e : ticks + 0 ≡ ticks = omega arith in subst NamesDiffer (ap (fed_until seed mirror) e) h
NamesDiffer-back seed mirror ticks (suc more) h =
    let e : ticks + suc more ≡ ticks + more + 1 = omega arith in
    NamesDiffer-back seed mirror ticks more
    (NamesDiffer-front (fed_until seed mirror (ticks + more)) (fed_in seed mirror (ticks + more))
    (subst NamesDiffer (ap (fed_until seed mirror) e ∙ joined_more (fed_in seed mirror) (ticks + more)) h))

pub NamesDiffer-fed : (seed mirror ticks : ℕ) → ticks ≤ 544 → NamesDiffer (fed_until seed mirror ticks)
NamesDiffer-fed seed mirror ticks h =
    let e : ticks + (544 - ticks) ≡ 544 = omega (arith, h) in
    NamesDiffer-back seed mirror ticks (544 - ticks)
    (subst NamesDiffer (ap (fed_until seed mirror) (sym e))
    (NamesDiffer-same (all_commands seed) (fed_until seed mirror 544) (λ p. times-fed p seed mirror) (NamesDiffer-made seed 4096)))

-- the name of a command isn't among those in front of it
pub new-name : (xs : List Command) (x : Command) (ys : List Command) → NamesDiffer (xs ++ x ∷ ys) → list_any (same_name x) xs ≡ false
unfolding NamesDiffer
new-name [] x ys h = refl
new-name (y ∷ xs) x ys h =
    let here : same_name x y ≡ false = same_name-sym y x (apart (λ z. same_name y z ≡ false) xs x ys h.0) in
    rw (here, new-name xs x ys h.1) refl
  where
    apart : (P : Command → Type 0) (xs : List Command) (x : Command) (ys : List Command) → AllByRecursion P (xs ++ x ∷ ys) → P x
    apart P [] x ys h = h.0
    apart P (z ∷ xs) x ys h = apart P xs x ys h.1

-- a command that arrives in a tick is due in one of the 32 ticks up to it
pub record ComesInTime (tick : ℕ) (x : Command) : Type 0 where
  pub due : x.time < 512
  pub late : tick ≤ x.time + 31

pub fed-in_time : (seed mirror tick : ℕ) → AllByRecursion (ComesInTime tick) (fed_in seed mirror tick)
unfolding arriving
fed-in_time seed mirror tick = all_joined (ComesInTime tick) (arriving seed mirror tick) 4096 (λ j l.
    elim (j / 8 + lag seed j mirror == tick) as
    (λ v. (j / 8 + lag seed j mirror == tick) ≡ v → AllByRecursion (ComesInTime tick) (cond v (command_at seed j ∷ []) [])) [
      | true ↦ λ e.
          let s : j / 8 + lag seed j mirror ≡ tick = grind (arith, nat_tests) in
          (record { due = omega (arith, l); late = omega (arith, s, lag-below seed j mirror) }, tt)
      | false ↦ λ e. tt
    ]
    refl)
