-- Walking the commands in key order, from where a tick's begin.
use Rattle.std.proofs.Common.{◌≡◌, refl, ◌∙◌, sym, ap, ℕ, zero, suc, ◌+◌, ◌-◌, ◌≤◌, ◌<◌, true}
use Rattle.std.proofs.Common.{false, cond, List, [], ◌∷◌, ◌++◌, length, map, take, filter, get_or}
use Rattle.std.proofs.Common.{length-append, eqb, ltb, ⊎_elim, subst, eq-eqb, arith}
use Rattle.std.proofs.lemmas.Bool.{lt-ltb, le-ltb, ne_eqb, cases_lt, cases_eq}
use Rattle.std.proofs.lemmas.Bool.Decides.{nat_tests}
use Rattle.std.proofs.lemmas.List.{length-map}
use Rattle.std.proofs.lemmas.Option.{slice_get_within, get_or_from_slice_get}
use Rattle.std.specs.List.Sorted.{IsPartitionPoint}
use Rattle.std.specs.Prelude.{Option, Some, None, slice_get}
use Rattle.std.specs.List.{AllByRecursion}
use Rattle.game_trait.specs.declared.command.Command.{Command}
use Rattle.game_trait.specs.declared.command.Item.{Item}
use Rattle.game_trait.specs.declared.command.Item.TheVariants.{Cmd, Beat}
use Rattle.game_trait.specs.Keys.{before, in_key_order, KeysRise, NamesDiffer}
use Rattle.game_trait.specs.Ordered.{due_at}
use Rattle.game_trait.specs.Count.{times}
use Rattle.game_trait.proofs.Counts.{times-in_key_order}
use Rattle.game_trait.proofs.KeyOrder.{before-asym, before-time, KeysRise-in_key_order}
use Rattle.game_trait.proofs.Lengths.{length-tick_of}
use Rattle.game_trait.proofs.Lists.{all-weaker}
use Rattle.game_trait.proofs.Places.{due_at-filter, rises-between}
use Rattle.pending_list.specs.Buckets.{start_of, due_or_none}
use Rattle.game_trait.proofs.Due.{none-due_later}

-- behind a command stand none of an earlier time
none-below :
    (t : ℕ) (xs : List Command) → AllByRecursion (λ y. t ≤ y.time) xs
    → times (λ y. ltb y.time t) xs ≡ 0
unfolding times
none-below t [] h = refl
none-below t (x ∷ xs) h = rw (le-ltb x.time t h.0) (omega (arith, none-below t xs h.1))

-- what is found so many places on from the first of a time
abbrev Walked : ℕ → List Command → ℕ → Type 0
Walked t xs i =
    due_or_none t (slice_get xs (times (λ x. ltb x.time t) xs + i))
    ≡ slice_get (filter (λ x. eqb x.time t) xs) i

walked-earlier :
    (t : ℕ) (x : Command) (xs : List Command) (i : ℕ) → x.time < t → Walked t xs i
    → Walked t (x ∷ xs) i
unfolding times
walked-earlier t x xs i low rest =
    let n = times (λ y. ltb y.time t) xs in
    let e : (1 + n) + i ≡ suc (n + i) = omega arith in
    rw (lt-ltb x.time t low, ne_eqb x.time t (λ (e : x.time ≡ t). omega arith))
    (ap (λ (k : ℕ). due_or_none t (slice_get (x ∷ xs) k)) e ∙ rest)

walked-here :
    (t : ℕ) (x : Command) (xs : List Command) → x.time ≡ t → times (λ y. ltb y.time t) xs ≡ 0
    → Walked t (x ∷ xs) 0
unfolding times
walked-here t x xs same none =
    rw (le-ltb x.time t (omega arith), eq-eqb x.time t same, none, eq-eqb x.time t same) refl

walked-more :
    (t : ℕ) (x : Command) (xs : List Command) (i : ℕ) → x.time ≡ t
    → times (λ y. ltb y.time t) xs ≡ 0 → Walked t xs i → Walked t (x ∷ xs) (suc i)
unfolding times
walked-more t x xs i same none rest =
    let n = times (λ y. ltb y.time t) xs in
    let e : (0 + n) + suc i ≡ suc (n + i) = omega arith in
    rw (le-ltb x.time t (omega arith), eq-eqb x.time t same)
    (ap (λ (k : ℕ). due_or_none t (slice_get (x ∷ xs) k)) e ∙ rest)

walked-later :
    (t : ℕ) (x : Command) (xs : List Command) → t < x.time → times (λ y. ltb y.time t) xs ≡ 0
    → filter (λ y. eqb y.time t) xs ≡ [] → Walked t (x ∷ xs) 0
unfolding times
walked-later t x xs high none empty =
    rw (
      le-ltb x.time t (omega arith),
      ne_eqb x.time t (λ (e : x.time ≡ t). omega arith),
      none,
      empty,
      ne_eqb x.time t (λ (e : x.time ≡ t). omega arith),
    ) refl

at_time :
    (t : ℕ) (x : Command) (xs : List Command) (i : ℕ) → x.time ≡ t
    → times (λ y. ltb y.time t) xs ≡ 0 → i ≤ length (x ∷ filter (λ y. eqb y.time t) xs)
    → ((j : ℕ) → j ≤ length (filter (λ y. eqb y.time t) xs) → Walked t xs j) → Walked t (x ∷ xs) i
at_time t x xs zero same none within rest = walked-here t x xs same none
at_time t x xs (suc i) same none within rest = walked-more t x xs i same none (rest i (omega arith))

-- so many places on from the first of a time stand its commands, and then none
pub walked :
    (t : ℕ) (xs : List Command) (i : ℕ) → KeysRise xs → i ≤ length (filter (λ x. eqb x.time t) xs)
    → Walked t xs i
unfolding times KeysRise
walked t [] zero rises within = refl
walked t [] (suc i) rises within = absurd (omega arith)
walked t (x ∷ xs) i rises within =
    ⊎_elim
    (λ (low : x.time < t). walked-earlier t x xs i low
    (walked t xs i rises.1 (rw (ne_eqb x.time t (λ (e : x.time ≡ t). omega arith)) at within)))
    (λ (high : t ≤ x.time).
    let most =
    all-weaker (λ y. before x y ≡ true) (λ y. t ≤ y.time) xs
    (λ y h. (let up = before-time x y h in omega arith)) rises.0 in
    let none = none-below t xs most in
    ⊎_elim
    (λ (same : x.time ≡ t). at_time t x xs i same none (rw (eq-eqb x.time t same) at within)
    (λ j h. walked t xs j rises.1 h))
    (λ (apart : x.time ≡ t → ⊥).
    let past : t < x.time = grind arith in
    let empty = none-due_later t xs (all-weaker (λ y. before x y ≡ true) (λ y. t < y.time) xs (λ y h. (let up = before-time x y h in omega arith)) rises.0) in
    let short : i ≤ length (filter (λ y. eqb y.time t) xs) = rw (ne_eqb x.time t apart) at within in
    let zero_is : i ≡ 0 = (let l = ap (λ (l : List Command). length l) empty in omega arith) in
    subst (Walked t (x ∷ xs)) (sym zero_is) (walked-later t x xs past none empty))
    (cases_eq x.time t))
    (cases_lt x.time t)

-- the same of commands in order of insertion
pub due-walked :
    (all : List Command) (t i : ℕ) → NamesDiffer all → i ≤ length (due_at all t)
    → due_or_none t (slice_get (in_key_order all) (start_of all t + i)) ≡ slice_get (due_at all t) i
due-walked all t i differ within =
    let same = due_at-filter all t differ in
    let start = times-in_key_order (λ x. ltb x.time t) all in
    ap (λ (n : ℕ). due_or_none t (slice_get (in_key_order all) (n + i))) (sym start)
    ∙ walked t (in_key_order all) i (KeysRise-in_key_order all differ)
    (let l = ap (λ (l : List Command). length l) same in omega arith)
    ∙ ap (λ (l : List Command). slice_get l i) same

-- the next tick's begin behind this one's
start-parts :
    (xs : List Command) (t : ℕ) → start_of xs (t + 1) ≡ start_of xs t + times (λ x. eqb x.time t) xs
unfolding times
start-parts [] t = refl
start-parts (x ∷ xs) t =
    let rest = start-parts xs t in
    let here :
    cond {A = ℕ} (ltb x.time (t + 1)) 1 0
    ≡ cond {A = ℕ} (ltb x.time t) 1 0 + cond {A = ℕ} (eqb x.time t) 1 0 =
    grind (arith, nat_tests) in
    omega arith

pub start-next :
    (all : List Command) (t : ℕ) → start_of all (t + 1) ≡ start_of all t + length (due_at all t)
start-next all t =
    let parts = start-parts all t in
    let whole = length-tick_of all t in
    let both = length-append (map Cmd (due_at all t)) (Beat ∷ []) in
    let one = length-map {A = Command} {B = Item} (due_at all t) (λ x. Cmd x) in
    omega arith

-- none stands before itself
irreflexive : (x : Command) → before x x ≡ true → ⊥
irreflexive x e = (let f = before-asym x x e in cc)

-- a command parts a rising list where it stands
parted-own :
    (xs : List Command) (x : Command) (place own : ℕ) → KeysRise xs → slice_get xs own ≡ Some x
    → place ≤ length xs
    → IsPartitionPoint (λ y. before y x ≡ true) (λ y. before y x ≡ false) xs place → place ≡ own
parted-own xs x place own rises here upto parted =
    let within = slice_get_within xs own x here in
    let at = get_or_from_slice_get xs own x x here in
    ⊎_elim
    (λ (low : place < own).
    absurd (let front : before (get_or xs place x) x ≡ true =
    ap (before (get_or xs place x)) (sym at)
    ∙ rises-between xs place own x rises low within in
    let behind : before (get_or xs place x) x ≡ false =
    parted.1 place x (omega arith) (omega arith) in
    cc))
    (λ (high : own ≤ place).
    ⊎_elim
    (λ (past : own < place).
    absurd
    (irreflexive x (ap (λ (y : Command). before y x) (sym at) ∙ parted.0 own x (omega arith) past)))
    (λ (level : place ≤ own). omega arith)
    (cases_lt own place))
    (cases_lt place own)

-- where a command of a tick stands in key order
due-place :
    (all : List Command) (t i : ℕ) (x : Command) → NamesDiffer all
    → slice_get (due_at all t) i ≡ Some x
    → slice_get (in_key_order all) (start_of all t + i) ≡ Some x
due-place all t i x differ here =
    due_some t (slice_get (in_key_order all) (start_of all t + i)) x
    (due-walked all t i differ
    (let within = slice_get_within (due_at all t) i x here in omega arith) ∙ here)
  where
    due_some :
        (t : ℕ) (found : Option Command) (x : Command) → due_or_none t found ≡ Some x
        → found ≡ Some x
    due_some t None x e = absurd cc
    due_some t (Some y) x e =
        elim (eqb y.time t) as
        (λ v. cond {A = Option Command} v (Some y) None ≡ Some x → Some y ≡ Some x)
        [ true ↦ λ k. k | false ↦ λ k. absurd cc ] e

-- what stands behind a command of a tick is the tick's next, if there is one
pub due-after :
    (all : List Command) (x : Command) (i place : ℕ) → NamesDiffer all
    → place ≤ length (in_key_order all)
    → IsPartitionPoint (λ y. before y x ≡ true) (λ y. before y x ≡ false) (in_key_order all) place
    → slice_get (due_at all x.time) i ≡ Some x
    → due_or_none x.time (slice_get (in_key_order all) (place + 1))
    ≡ slice_get (due_at all x.time) (i + 1)
due-after all x i place differ upto parted here =
    let own =
    parted-own (in_key_order all) x place (start_of all x.time + i)
    (KeysRise-in_key_order all differ) (due-place all x.time i x differ here) upto parted in
    let e : place + 1 ≡ start_of all x.time + (i + 1) = omega arith in
    ap (λ (k : ℕ). due_or_none x.time (slice_get (in_key_order all) k)) e
    ∙ due-walked all x.time (i + 1) differ
    (let within = slice_get_within (due_at all x.time) i x here in omega arith)

-- one more of a list
pub take-more :
    {X : Type 0} (xs : List X) (i : ℕ) (x : X) → slice_get xs i ≡ Some x
    → take (i + 1) xs ≡ take i xs ++ x ∷ []
take-more [] i x here = absurd cc
take-more {X} (y ∷ ys) zero x here = (let same : y ≡ x = cc in ap (λ (z : X). z ∷ []) same)
take-more {X} (y ∷ ys) (suc i) x here =
    (let e : suc i + 1 ≡ suc (i + 1) = omega arith in
    rw e (ap (λ (l : List X). y ∷ l) (take-more ys i x here)))

-- where none is left
at-end :
    {X : Type 0} (xs : List X) (i : ℕ) → i ≤ length xs → slice_get xs i ≡ None
    → (take i xs ≡ xs) × (i ≡ length xs)
at-end [] zero within none = (refl, refl)
at-end [] (suc i) within none = absurd (omega arith)
at-end (x ∷ xs) zero within none = absurd cc
at-end {X} (x ∷ xs) (suc i) within none =
    let rest = at-end xs i (omega arith) none in
    (ap (λ (l : List X). x ∷ l) rest.0, ap suc rest.1)

-- a walk through a tick's commands has come from their start to a place
pub record IsWalked (all : List Command) (t start place : ℕ) : Type 0 where
  pub begun : start ≡ start_of all t
  pub from : start ≤ place
  pub within : place - start ≤ length (due_at all t)

-- the commands that it has passed
abbrev pub walked_by : List Command → ℕ → ℕ → ℕ → List Command
walked_by all t start place = take (place - start) (due_at all t)

-- what is found there
abbrev pub FoundDue : List Command → ℕ → ℕ → Option Command → Type 0
FoundDue all t place found =
    (i : ℕ) → place ≡ start_of all t + i → i ≤ length (due_at all t)
    → slice_get (due_at all t) i ≡ found

pub walk-begun :
    (all : List Command) (t start : ℕ) → start ≡ start_of all t
    → IsWalked all t start start × (walked_by all t start start ≡ [])
walk-begun all t start begun =
    let e : start - start ≡ 0 = omega arith in (
      record { begun = begun; from = omega arith; within = omega arith },
      ap (λ (n : ℕ). take n (due_at all t)) e,
    )

module _ {all : List Command} {t start place : ℕ} (h : IsWalked all t start place) where
  pub walk-here :
      (found : Option Command) → FoundDue all t place found
      → slice_get (due_at all t) (place - start) ≡ found
  walk-here found at =
      at (place - start) (let begun = h.begun in let from = h.from in omega arith) h.within

  -- one more
  pub walk-more :
      (x : Command) → FoundDue all t place (Some x)
      → IsWalked all t start (place + 1)
      × (walked_by all t start (place + 1) ≡ walked_by all t start place ++ x ∷ [])
  walk-more x at =
      let here = walk-here (Some x) at in
      let within = slice_get_within (due_at all t) (place - start) x here in
      let from = h.from in
      let e : (place + 1) - start ≡ (place - start) + 1 = omega arith in (
        record { begun = h.begun; from = omega arith; within = omega arith },
        ap (λ (n : ℕ). take n (due_at all t)) e ∙ take-more (due_at all t) (place - start) x here,
      )

  pub walk-left :
      (x : Command) → FoundDue all t place (Some x) → place - start < length (due_at all t)
  walk-left x at = slice_get_within (due_at all t) (place - start) x (walk-here (Some x) at)

  -- or none: all were passed, and the next tick's begin here
  pub walk-done :
      FoundDue all t place None
      → (walked_by all t start place ≡ due_at all t)
      × ((place ≡ start_of all (t + 1)) × (place - start ≡ length (due_at all t)))
  walk-done at =
      let last = at-end (due_at all t) (place - start) h.within (walk-here None at) in
      let next = start-next all t in
      let begun = h.begun in
      let from = h.from in
      let long = last.1 in
      (last.0, (omega arith, last.1))
