-- What is due at a tick or later, of commands in key order: where it begins, and that its first tick
-- is that of all.
use Rattle.std.proofs.Common.{◌≡◌, ℕ, zero, suc, ◌+◌, ◌≤◌, ◌<◌, true, false, cond, nat_lt, List, [], ◌∷◌, length, drop, get_or, filter, map, refl, ap, sym, ◌∙◌, arith}
use Rattle.std.specs.Prelude.{◌==◌}
use Rattle.std.specs.List.{AllByRecursion}
use Rattle.std.specs.List.Sorted.{IsPartitionedBy, IsPartitionPoint}
use Rattle.std.proofs.lemmas.Bool.Decides.{nat_tests}
use Rattle.game_trait.specs.declared.command.Command.{Command}
use Rattle.game_trait.specs.declared.command.Item.TheVariants.{Cmd}
use Rattle.game_trait.specs.Game.{Rules}
use Rattle.game_trait.specs.Keys.{before, KeysRise}
use Rattle.game_trait.specs.Run.{world_of}
use Rattle.game_trait.specs.Ordered.{due_at, tick_of, ticks}
use Rattle.game_trait.specs.Front.{due_front, due_behind}
use Rattle.game_trait.proofs.Due.{none-due_later}
use Rattle.game_trait.proofs.KeyOrder.{before-time, KeysRise-filter, in_key_order-rising}
use Rattle.game_trait.proofs.Lists.{all-at, all-weaker}
use Rattle.game_trait.proofs.Runs.{world_of-append, world_of-beat}
use Rattle.rewind_store.specs.DueFrom.{due_from}

-- ---- where it begins

-- what follows a command in key order isn't due before it
later : (t : ℕ) (x : Command) (xs : List Command) → t ≤ x.time → AllByRecursion (λ y. before x y ≡ true) xs → AllByRecursion (λ y. t ≤ y.time) xs
later t x xs h rises = all-weaker (λ y. before x y ≡ true) (λ y. t ≤ y.time) xs (λ y b. omega (arith, before-time x y b)) rises

-- times don't fall in key order
times-rise : (xs : List Command) (i j : ℕ) (d : Command) → KeysRise xs → i ≤ j → j < length xs → (get_or xs i d).time ≤ (get_or xs j d).time
unfolding KeysRise
times-rise [] i j d rises upto within = absurd (omega arith)
times-rise (x ∷ xs) zero zero d rises upto within = omega arith
times-rise (x ∷ xs) (suc i) zero d rises upto within = absurd (omega arith)
times-rise (x ∷ xs) zero (suc j) d rises upto within = before-time x (get_or xs j d) (all-at (λ y. before x y ≡ true) xs j d rises.0 (omega arith))
times-rise (x ∷ xs) (suc i) (suc j) d rises upto within = times-rise xs i j d rises.1 (omega arith) (omega arith)

-- so those that are due before a tick stand in front
pub time-parted : (t : ℕ) (xs : List Command) → KeysRise xs → IsPartitionedBy (λ y. nat_lt y.time t) xs
time-parted t xs rises i j d upto within below =
    let up = times-rise xs i j d rises upto within in
    grind (arith, nat_tests)

-- and the rest begins where the two parts meet
pub due_from-point :
    (t : ℕ) (xs : List Command) (at : ℕ) → at ≤ length xs → IsPartitionPoint (λ y. nat_lt y.time t ≡ true) (λ y. nat_lt y.time t ≡ false) xs at
    → drop at xs ≡ due_from t xs
unfolding due_from
due_from-point t [] zero within parted = refl
due_from-point t [] (suc at) within parted = absurd (omega arith)
due_from-point t (x ∷ xs) zero within parted =
    let here : nat_lt x.time t ≡ false = parted.1 0 x (omega arith) (omega arith) in
    rw here refl
due_from-point t (x ∷ xs) (suc at) within parted =
    let here : nat_lt x.time t ≡ true = parted.0 0 x (omega arith) (omega arith) in
    let rest = due_from-point t xs at (omega arith) (λ k d low h. parted.0 (suc k) d (omega arith) (omega arith), λ k d low h. parted.1 (suc k) d (omega arith) (omega arith)) in
    rw here rest

-- ---- its first tick

-- what is due at a tick stands at the front of what isn't due before
due_front-filter : (t : ℕ) (xs : List Command) → KeysRise xs → AllByRecursion (λ x. t ≤ x.time) xs → due_front t xs ≡ filter (λ x. x.time == t) xs
unfolding due_front KeysRise
due_front-filter t [] rises due = refl
due_front-filter t (x ∷ xs) rises due =
    elim (x.time == t) as (λ v. (x.time == t) ≡ v → cond v (x ∷ due_front t xs) [] ≡ cond v (x ∷ filter (λ y. y.time == t) xs) (filter (λ y. y.time == t) xs)) [
      | true ↦ λ e. ap (λ (l : List Command). x ∷ l) (due_front-filter t xs rises.1 due.1)
      | false ↦ λ e. (let past : t + 1 ≤ x.time = (let l : t ≤ x.time = due.0 in grind (arith, nat_tests)) in
          sym (none-due_later t xs (all-weaker (λ y. t + 1 ≤ y.time) (λ y. t < y.time) xs (λ y h. omega arith) (later (t + 1) x xs past rises.0))))
    ]
    refl

first-due : (t : ℕ) (xs : List Command) → KeysRise xs → due_front t (due_from t xs) ≡ filter (λ x. x.time == t) xs
unfolding due_from KeysRise
first-due t [] rises = due_front-filter t [] tt tt
first-due t (x ∷ xs) rises =
    elim (nat_lt x.time t) as (λ v. nat_lt x.time t ≡ v → due_front t (cond v (due_from t xs) (x ∷ xs)) ≡ filter (λ y. y.time == t) (x ∷ xs)) [
      | true ↦ λ e. (let f : (x.time == t) ≡ false = grind (arith, nat_tests) in rw f (first-due t xs rises.1))
      | false ↦ λ e. (let l : t ≤ x.time = grind (arith, nat_tests) in due_front-filter t (x ∷ xs) rises (l, later t x xs l rises.0))
    ]
    refl

-- behind what is due at a tick stands what is due at the next or later
due_behind-due : (t : ℕ) (xs : List Command) → AllByRecursion (λ x. t ≤ x.time) xs → due_behind t xs ≡ due_from (t + 1) xs
unfolding due_behind due_from
due_behind-due t [] due = refl
due_behind-due t (x ∷ xs) due =
    elim (x.time == t) as (λ v. (x.time == t) ≡ v → cond v (due_behind t xs) (x ∷ xs) ≡ due_from (t + 1) (x ∷ xs)) [
      | true ↦ λ e. (let f : nat_lt x.time (t + 1) ≡ true = grind (arith, nat_tests) in rw f (due_behind-due t xs due.1))
      | false ↦ λ e. (let l : t ≤ x.time = due.0 in let f : nat_lt x.time (t + 1) ≡ false = grind (arith, nat_tests) in rw f refl)
    ]
    refl

pub due_behind-due_from : (t : ℕ) (xs : List Command) → KeysRise xs → due_behind t (due_from t xs) ≡ due_from (t + 1) xs
unfolding due_from KeysRise
due_behind-due_from t [] rises = due_behind-due t [] tt
due_behind-due_from t (x ∷ xs) rises =
    elim (nat_lt x.time t) as (λ v. nat_lt x.time t ≡ v → due_behind t (cond v (due_from t xs) (x ∷ xs)) ≡ due_from (t + 1) (x ∷ xs)) [
      | true ↦ λ e. (let f : nat_lt x.time (t + 1) ≡ true = grind (arith, nat_tests) in rw f (due_behind-due_from t xs rises.1))
      | false ↦ λ e. (let l : t ≤ x.time = grind (arith, nat_tests) in due_behind-due t (x ∷ xs) (l, later t x xs l rises.0))
    ]
    refl

-- what is due at a tick, of all
due_at-front : (t : ℕ) (xs : List Command) → KeysRise xs → due_at xs t ≡ due_front t (due_from t xs)
due_at-front t xs rises = in_key_order-rising (filter (λ x. x.time == t) xs) (KeysRise-filter (λ x. x.time == t) xs rises) ∙ sym (first-due t xs rises)

-- one tick of what is due from it on, and then the ticks behind it
pub world_of-next :
    {W : Type 0} (rules : Rules W) (world : W) (t n : ℕ) (xs : List Command) → KeysRise xs
    → world_of rules (rules.beat (world_of rules world (map Cmd (due_front t (due_from t xs))))) (ticks xs (t + 1) n)
    ≡ world_of rules world (ticks xs t (suc n))
unfolding ticks
world_of-next rules world t n xs rises =
    sym (world_of-append rules world (tick_of xs t) (ticks xs (t + 1) n)
    ∙ ap (λ (w : _). world_of rules w (ticks xs (t + 1) n)) (world_of-beat rules world (map Cmd (due_at xs t)))
    ∙ ap (λ (l : List Command). world_of rules (rules.beat (world_of rules world (map Cmd l))) (ticks xs (t + 1) n)) (due_at-front t xs rises))

-- no tick is left
pub world_of-no_ticks : {W : Type 0} (rules : Rules W) (world : W) (xs : List Command) (t n : ℕ) → n ≡ 0 → world_of rules world (ticks xs t n) ≡ world
unfolding ticks world_of
world_of-no_ticks rules world xs t n e = rw e refl
