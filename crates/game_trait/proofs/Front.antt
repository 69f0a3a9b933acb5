-- In a list whose keys rise, what is due at a tick stands at the front, and what is due later behind it.
use Rattle.std.proofs.Common.{◌≡◌, ℕ, zero, suc, ◌+◌, ◌-◌, ◌<◌, ◌≤◌, Bool, true, false, cond, List, [], ◌∷◌, map, filter, refl, ap, sym, ◌∙◌, arith}
use Rattle.std.specs.Prelude.{◌==◌}
use Rattle.std.specs.List.{AllByRecursion}
use Rattle.std.proofs.lemmas.Bool.Decides.{nat_tests}
use Rattle.game_trait.specs.declared.command.Command.{Command}
use Rattle.game_trait.specs.declared.command.Item.{Item}
use Rattle.game_trait.specs.declared.command.Item.TheVariants.{Cmd}
use Rattle.game_trait.specs.Game.{Rules}
use Rattle.game_trait.specs.Keys.{before, KeysRise, NamesDiffer, in_key_order}
use Rattle.game_trait.specs.Count.{times}
use Rattle.game_trait.proofs.Counts.{times-in_key_order}
use Rattle.game_trait.proofs.OrderedParts.{ticks-same}
use Rattle.game_trait.specs.Run.{world_of}
use Rattle.game_trait.specs.Ordered.{due_at, tick_of, ticks, time_ordered}
use Rattle.game_trait.proofs.KeyOrder.{before-time, all-weaker, KeysRise-filter, KeysRise-in_key_order, NamesDiffer-same, in_key_order-rising}
use Rattle.game_trait.proofs.Runs.{world_of-append, world_of-beat}
use Rattle.game_trait.specs.Front.{due_front, due_behind}
use Rattle.game_trait.proofs.Due.{none-due_later}

-- commands that are due at tick t or later, in key order
pub record FromTick (t : ℕ) (xs : List Command) : Type 0 where
  pub rise : KeysRise xs
  pub due : AllByRecursion (λ x. t ≤ x.time) xs

-- where the first isn't due at tick t, none is
later : (t : ℕ) (x : Command) (xs : List Command) → t < x.time → AllByRecursion (λ y. before x y ≡ true) xs → AllByRecursion (λ y. t < y.time) xs
later t x xs h rises = all-weaker (λ y. before x y ≡ true) (λ y. t < y.time) xs (λ y b. omega (arith, before-time x y b)) rises

-- what is due at the tick stands at the front
due_front-filter : (t : ℕ) (xs : List Command) → FromTick t xs → due_front t xs ≡ filter (λ x. x.time == t) xs
unfolding due_front KeysRise
due_front-filter t [] from = refl
due_front-filter t (x ∷ xs) from =
    elim (x.time == t) as (λ v. (x.time == t) ≡ v → cond v (x ∷ due_front t xs) [] ≡ cond v (x ∷ filter (λ y. y.time == t) xs) (filter (λ y. y.time == t) xs)) [
      | true ↦ λ e. ap (λ (l : List Command). x ∷ l) (due_front-filter t xs (record { rise = from.rise.1; due = from.due.1 }))
      | false ↦ λ e. sym (none-due_later t xs (later t x xs (let l : t ≤ x.time = from.due.0 in grind (arith, nat_tests)) from.rise.0))
    ]
    refl

-- what stands behind is due at the next tick or later
pub due_behind-FromTick : (t : ℕ) (xs : List Command) → FromTick t xs → FromTick (t + 1) (due_behind t xs)
unfolding due_behind KeysRise
due_behind-FromTick t [] from = record { rise = tt; due = tt }
due_behind-FromTick t (x ∷ xs) from =
    elim (x.time == t) as (λ v. (x.time == t) ≡ v → FromTick (t + 1) (cond v (due_behind t xs) (x ∷ xs))) [
      | true ↦ λ e. due_behind-FromTick t xs (record { rise = from.rise.1; due = from.due.1 })
      | false ↦ λ e. (let past : t < x.time = (let l : t ≤ x.time = from.due.0 in grind (arith, nat_tests)) in
          record { rise = from.rise; due = (omega arith, all-weaker (λ y. t < y.time) (λ y. t + 1 ≤ y.time) xs (λ y h. omega arith) (later t x xs past from.rise.0)) })
    ]
    refl

-- at a later tick nothing of the front counts
filter-behind : (t u : ℕ) (xs : List Command) → t < u → filter (λ x. x.time == u) (due_behind t xs) ≡ filter (λ x. x.time == u) xs
unfolding due_behind
filter-behind t u [] h = refl
filter-behind t u (x ∷ xs) h =
    elim (x.time == t) as (λ v. (x.time == t) ≡ v → filter (λ y. y.time == u) (cond v (due_behind t xs) (x ∷ xs)) ≡ filter (λ y. y.time == u) (x ∷ xs)) [
      | true ↦ λ e. (let f : (x.time == u) ≡ false = grind (arith, nat_tests) in rw f (filter-behind t u xs h))
      | false ↦ λ e. refl
    ]
    refl

due_at-behind : (t u : ℕ) (xs : List Command) → t < u → due_at (due_behind t xs) u ≡ due_at xs u
due_at-behind t u xs h = ap in_key_order (filter-behind t u xs h)

ticks-behind : (t u n : ℕ) (xs : List Command) → t < u → ticks (due_behind t xs) u n ≡ ticks xs u n
unfolding ticks
ticks-behind t u zero xs h = refl
ticks-behind t u (suc n) xs h = rw (due_at-behind t u xs h, ticks-behind t (u + 1) n xs (omega arith)) refl

due_at-front : (t : ℕ) (xs : List Command) → FromTick t xs → due_at xs t ≡ due_front t xs
due_at-front t xs from = in_key_order-rising (filter (λ x. x.time == t) xs) (KeysRise-filter (λ x. x.time == t) xs from.rise) ∙ sym (due_front-filter t xs from)

-- one tick of commands in key order: those at the front, one beat, and then the ticks of what stands behind
pub world_of-tick :
    {W : Type 0} (rules : Rules W) (world : W) (t n : ℕ) (xs : List Command) → FromTick t xs
    → world_of rules (rules.beat (world_of rules world (map Cmd (due_front t xs)))) (ticks (due_behind t xs) (t + 1) n)
    ≡ world_of rules world (ticks xs t (suc n))
unfolding ticks
world_of-tick rules world t n xs from =
    sym (world_of-append rules world (tick_of xs t) (ticks xs (t + 1) n)
    ∙ ap (λ (w : _). world_of rules w (ticks xs (t + 1) n)) (world_of-beat rules world (map Cmd (due_at xs t)))
    ∙ ap (λ (l : List Command). world_of rules (rules.beat (world_of rules world (map Cmd l))) (ticks xs (t + 1) n)) (due_at-front t xs from)
    ∙ ap (λ (l : List Item). world_of rules (rules.beat (world_of rules world (map Cmd (due_front t xs)))) l) (sym (ticks-behind t (t + 1) n xs (omega arith))))

all-from_zero : (xs : List Command) → AllByRecursion (λ x. 0 ≤ x.time) xs
all-from_zero [] = tt
all-from_zero (x ∷ xs) = (omega arith, all-from_zero xs)

-- all commands are due at tick 0 or later
pub FromTick-start : (xs : List Command) → NamesDiffer xs → FromTick 0 (in_key_order xs)
FromTick-start xs differ = record { rise = KeysRise-in_key_order xs differ; due = all-from_zero (in_key_order xs) }

-- executing commands that were put in key order first is executing them as they came
pub world_of-in_key_order :
    {W : Type 0} (rules : Rules W) (opening : W) (xs : List Command) (length : ℕ) → NamesDiffer xs
    → world_of rules opening (ticks (in_key_order xs) 0 length) ≡ time_ordered rules opening xs length
world_of-in_key_order rules opening xs length differ =
    let same : (p : Command → Bool) → times p (in_key_order xs) ≡ times p xs = λ p. times-in_key_order p xs in
    let all : length - 0 ≡ length = omega arith in
    ap (world_of rules opening) (ticks-same (in_key_order xs) xs 0 length (NamesDiffer-same xs (in_key_order xs) (λ p. sym (same p)) differ) differ same
    ∙ ap (ticks xs 0) (sym all))

-- no tick is left
pub world_of-no_ticks : {W : Type 0} (rules : Rules W) (world : W) (xs : List Command) (t n : ℕ) → n ≡ 0 → world_of rules world (ticks xs t n) ≡ world
unfolding ticks world_of
world_of-no_ticks rules world xs t n e = rw e refl
