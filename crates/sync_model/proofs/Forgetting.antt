-- What was forgotten changes nothing: an event leaves of a mirror what it would leave of the whole.
use Rattle.std.proofs.Common.{◌≡◌, refl, ◌∙◌, ap, sym, ℕ, zero, suc, ◌+◌, ◌-◌, ◌<◌, min, Bool, true, false, cond, ◌&&◌, ◌||◌, not, eqb, leb, ltb}
use Rattle.std.proofs.Common.{List, [], ◌∷◌, ◌++◌, map, filter, length, get_or, set, append_assoc, append-nil, arith}
use Rattle.std.specs.Bool.{Decides}
use Rattle.std.specs.List.{list_any}
use Rattle.std.proofs.lemmas.Bool.Decides.{nat_tests}
use Rattle.std.proofs.lemmas.List.{map-append, append_cancel_left, length-map}
use Rattle.std.proofs.lemmas.List.Elements.{filter-append}
use Rattle.std.proofs.Math.ListN.{length-set}
use Rattle.game_trait.specs.declared.command.Command.{Command}
use Rattle.game_trait.specs.declared.command.Item.{Item}
use Rattle.game_trait.specs.declared.command.Item.TheVariants.{Cmd}
use Rattle.game_trait.specs.declared.event.Event.{Event}
use Rattle.game_trait.specs.declared.event.Event.TheVariants.{Tick, Arrive, Step, Restagger}
use Rattle.game_trait.specs.declared.event.Reply.TheVariants.{Arrive as ToArrive, Step as ToStep}
use Rattle.game_trait.specs.declared.event.Arrived.TheVariants.{Taken, Repeat, Late}
use Rattle.game_trait.specs.declared.event.Stepped.TheVariants.{Ran}
use Rattle.game_trait.specs.Count.{times}
use Rattle.game_trait.specs.Game.{Rules}
use Rattle.game_trait.specs.Keys.{same_name, in_key_order}
use Rattle.game_trait.specs.Run.{beats, world_of, IsPrefix}
use Rattle.game_trait.specs.Ordered.{due_at, tick_of, ticks, ordered}
use Rattle.game_trait.proofs.Runs.{beats-append}
use Rattle.game_trait.proofs.OrderedParts.{beats-ordered}
use Rattle.sync_model.specs.Lists.{last_of}
use Rattle.sync_model.specs.Schedule.{limit_at}
use Rattle.sync_model.specs.State.{MirrorState, delays_of, copy_clock, last_clock, step_limit}
use Rattle.sync_model.specs.Settle.{begins_with, rebuilt, settle_one, settle, is_repaired, which_repaired, repaired}
use Rattle.sync_model.specs.Change.{next, said, is_over, is_repeat, is_late, is_idle, with_late, with_tick, proposed_by_arrival, proposed_by_step}
use Rattle.game_trait.specs.Later.{later, later_item, earlier_item, later_event, later_reply}
use Rattle.sync_model.specs.Forgetting.{whole_run, IsLeft, IsRemembered, is_repeat_from, arrive_from, said_from, at_base, left_at_base}
use Rattle.sync_model.proofs.Cases.{taken, away, said_taken}
use Rattle.sync_model.proofs.Answered.{tick_over, tick_moved, arrive_repeat, arrive_late, arrive_taken, step_idle, step_ran}
use Rattle.game_trait.proofs.Later.{due_at-later, tick-later, beats-later, earlier-later}
use Rattle.sync_model.proofs.Lists.{last-map}
use Rattle.sync_model.proofs.Proposals.{ticks-later}
use Rattle.sync_model.proofs.Settle.{begins_with-Decides, settle-length}

-- ---- lists

-- a test that asks for more than another passes where it passes the other
pub filter-through :
    {X : Type 0} (p q : X → Bool) → ((x : X) → p x && q x ≡ p x) → (xs : List X) → filter p (filter q xs) ≡ filter p xs
filter-through p q more [] = refl
filter-through {X} p q more (x ∷ xs) =
    elim (q x) as (λ v. q x ≡ v → filter p (cond v (x ∷ filter q xs) (filter q xs)) ≡ filter p (x ∷ xs)) [
      | true ↦ λ e. ap (λ (l : List X). cond (p x) (x ∷ l) l) (filter-through p q more xs)
      | false ↦ λ e.
          let none : p x ≡ false = sym (more x) ∙ rw e (elim (p x) as (λ v. v && false ≡ false) [ true ↦ refl | false ↦ refl ]) in
          filter-through p q more xs ∙ rw none refl
    ]
    refl

pub map-get : {X Y : Type 0} (f : X → Y) (xs : List X) (i : ℕ) (d : X) (e : Y) → i < length xs → get_or (map f xs) i e ≡ f (get_or xs i d)
map-get f [] i d e h = absurd (omega arith)
map-get f (x ∷ xs) zero d e h = refl
map-get f (x ∷ xs) (suc i) d e h = map-get f xs i d e (omega arith)

map-put : {X Y : Type 0} (f : X → Y) (xs : List X) (i : ℕ) (x : X) → set (map f xs) i (f x) ≡ map f (set xs i x)
map-put f [] i x = refl
map-put f (y ∷ xs) zero x = refl
map-put {X} {Y} f (y ∷ xs) (suc i) x = ap (λ (l : List Y). f y ∷ l) (map-put f xs i x)

-- two tests that decide the same are the same
same-verdict : (a b : Bool) {P Q : Type 0} → Decides a P → Decides b Q → (P → Q) → (Q → P) → a ≡ b
same-verdict true true da db there back = refl
same-verdict true false da db there back = sym (db.1 (there (da.0 refl)))
same-verdict false true da db there back = da.1 (back (db.0 refl))
same-verdict false false da db there back = refl

-- ---- runs that are whole again

-- a run that begins with another does so behind the same front
module _ (front : List Item) (b : ℕ) where
  whole-append : (r s : List Item) → whole_run front b r ++ map (later_item b) s ≡ whole_run front b (r ++ s)
  whole-append r s =
      append_assoc front (map (later_item b) r) (map (later_item b) s)
      ∙ ap (λ (l : List Item). front ++ l) (sym (map-append (later_item b) r s))

  whole-prefix : (p q : List Item) → IsPrefix q p → IsPrefix (whole_run front b q) (whole_run front b p)
  whole-prefix p q h = (map (later_item b) h.0, ap (whole_run front b) h.1 ∙ sym (whole-append q h.0))

  left-prefix : (p q : List Item) → IsPrefix (whole_run front b q) (whole_run front b p) → IsPrefix q p
  left-prefix p q h =
      let e : map (later_item b) p ≡ map (later_item b) q ++ h.0 =
      append_cancel_left front (map (later_item b) p) (map (later_item b) q ++ h.0) (h.1 ∙ append_assoc front (map (later_item b) q) h.0) in (
        map (earlier_item b) h.0,
        sym (earlier-later b p) ∙ ap (map (earlier_item b)) e ∙ map-append (earlier_item b) (map (later_item b) q) h.0
            ∙ ap (λ (l : List Item). l ++ map (earlier_item b) h.0) (earlier-later b q),
      )

  begins-whole : (p q : List Item) → begins_with (whole_run front b p) (whole_run front b q) ≡ begins_with p q
  begins-whole p q =
      same-verdict (begins_with (whole_run front b p) (whole_run front b q)) (begins_with p q)
      (begins_with-Decides (whole_run front b p) (whole_run front b q)) (begins_with-Decides p q) (left-prefix p q) (whole-prefix p q)

-- ---- the commands of the whole, and those that are left

module _ (b : ℕ) (all left : List Command) (same : filter (λ x. leb b x.time) all ≡ map (later b) left) where
  later-due : (t : ℕ) (x : Command) → eqb x.time (b + t) && leb b x.time ≡ eqb x.time (b + t)
  later-due t x = grind (arith, nat_tests)

  pub due-left : (t : ℕ) → due_at all (b + t) ≡ map (later b) (due_at left t)
  due-left t =
      ap in_key_order
      (sym (filter-through (λ (x : Command). eqb x.time (b + t)) (λ x. leb b x.time) (later-due t) all)
      ∙ ap (filter (λ (x : Command). eqb x.time (b + t))) same)
      ∙ due_at-later b t left

  tick-left : (t : ℕ) → tick_of all (b + t) ≡ map (later_item b) (tick_of left t)
  tick-left t = tick-later b t all left (due-left t)

  ticks-left : (t n : ℕ) → ticks all (b + t) n ≡ map (later_item b) (ticks left t n)
  unfolding ticks
  ticks-left t zero = refl
  ticks-left t (suc n) =
      let e : (b + t) + 1 ≡ b + (t + 1) = omega arith in
      ap (λ (k : ℕ). tick_of all (b + t) ++ ticks all k n) e
      ∙ ap (λ (l : List Item). l ++ ticks all (b + (t + 1)) n) (tick-left t)
      ∙ ap (λ (l : List Item). map (later_item b) (tick_of left t) ++ l) (ticks-left (t + 1) n)
      ∙ sym (map-append (later_item b) (tick_of left t) (ticks left (t + 1) n))

  pub ordered-left : (i j : ℕ) → ordered all (b + i) (b + j) ≡ map (later_item b) (ordered left i j)
  ordered-left i j = (let e : (b + j) - (b + i) ≡ j - i = omega arith in ap (ticks all (b + i)) e ∙ ticks-left i (j - i))

  -- runs that are whole again behind a front of b ticks
  module _ (front : List Item) (long : beats front ≡ b) where
    pub beats-whole : (run : List Item) → beats (whole_run front b run) ≡ b + beats run
    beats-whole run = beats-append front (map (later_item b) run) ∙ omega (arith, long, beats-later b run)

    rebuilt-whole : (p q : List Item) → rebuilt all (whole_run front b p) (whole_run front b q) ≡ whole_run front b (rebuilt left p q)
    rebuilt-whole p q =
        ap (λ (k : ℕ). whole_run front b q ++ ordered all k (beats (whole_run front b p))) (beats-whole q)
        ∙ ap (λ (k : ℕ). whole_run front b q ++ ordered all (b + beats q) k) (beats-whole p)
        ∙ ap (λ (l : List Item). whole_run front b q ++ l) (ordered-left (beats q) (beats p))
        ∙ whole-append front b q (ordered left (beats q) (beats p))

    settle_one-whole :
        (p : List Item) (ss : List (List Item))
        → settle_one all (whole_run front b p) (map (whole_run front b) ss) ≡ map (whole_run front b) (settle_one left p ss)
    unfolding settle_one
    settle_one-whole p [] = refl
    settle_one-whole p (s ∷ rest) =
        rw (begins-whole front b p s)
        (elim (begins_with p s) as (λ v. cond v (whole_run front b p) (rebuilt all (whole_run front b p) (whole_run front b s)) ∷ whole_run front b s ∷ map (whole_run front b) rest
        ≡ map (whole_run front b) (cond v p (rebuilt left p s) ∷ s ∷ rest)) [
          | true ↦ refl
          | false ↦ ap (λ (r : List Item). r ∷ whole_run front b s ∷ map (whole_run front b) rest) (rebuilt-whole p s)
        ])

    pub settle-whole : (qs : List (List Item)) → settle all (map (whole_run front b) qs) ≡ map (whole_run front b) (settle left qs)
    unfolding settle
    settle-whole [] = refl
    settle-whole (q ∷ qs) = ap (settle_one all (whole_run front b q)) (settle-whole qs) ∙ settle_one-whole q (settle left qs)

    is_repaired-whole : (p : List Item) (ss : List (List Item)) → is_repaired (whole_run front b p) (map (whole_run front b) ss) ≡ is_repaired p ss
    unfolding is_repaired
    is_repaired-whole p [] = refl
    is_repaired-whole p (s ∷ rest) = ap not (begins-whole front b p s)

    which-whole : (qs : List (List Item)) → which_repaired all (map (whole_run front b) qs) ≡ which_repaired left qs
    unfolding which_repaired
    which-whole [] = refl
    which-whole (q ∷ qs) = rw (settle-whole qs, is_repaired-whole q (settle left qs), which-whole qs) refl

    pub repaired-whole : (qs : List (List Item)) → repaired all (map (whole_run front b) qs) ≡ repaired left qs
    repaired-whole qs = ap (times (λ v. v)) (which-whole qs)

    tick-whole : (r : List Item) → with_tick all (whole_run front b r) ≡ whole_run front b (with_tick left r)
    unfolding with_tick
    tick-whole r =
        ap (λ (k : ℕ). whole_run front b r ++ tick_of all k) (beats-whole r)
        ∙ ap (λ (l : List Item). whole_run front b r ++ l) (tick-left (beats r))
        ∙ whole-append front b r (tick_of left (beats r))

    pub step-whole :
        (runs : List (List Item)) (c : ℕ) → c < length runs
        → proposed_by_step all (map (whole_run front b) runs) c ≡ map (whole_run front b) (proposed_by_step left runs c)
    step-whole runs c there =
        ap (λ (r : List Item). set (map (whole_run front b) runs) c (with_tick all r)) (map-get (whole_run front b) runs c [] [] there)
        ∙ ap (set (map (whole_run front b) runs) c) (tick-whole (get_or runs c []))
        ∙ map-put (whole_run front b) runs c (with_tick left (get_or runs c []))

    pub clock-whole : (runs : List (List Item)) (c : ℕ) → c < length runs → copy_clock (map (whole_run front b) runs) c ≡ b + copy_clock runs c
    clock-whole runs c there = ap beats (map-get (whole_run front b) runs c [] [] there) ∙ beats-whole (get_or runs c [])

    pub last-whole : (runs : List (List Item)) → 0 < length runs → last_clock (map (whole_run front b) runs) ≡ b + last_clock runs
    unfolding last_of
    last-whole [] some = absurd (omega arith)
    last-whole (r ∷ runs) some = ap beats (last-map (whole_run front b) r runs) ∙ beats-whole (last_of r runs)

    late-tested : (x : Command) (r : List Item) → ltb (later b x).time (beats (whole_run front b r)) ≡ ltb x.time (beats r)
    late-tested x r = ap (ltb (later b x).time) (beats-whole r) ∙ grind (arith, nat_tests)

    late-whole : (x : Command) (r : List Item) → with_late (later b x) (whole_run front b r) ≡ whole_run front b (with_late x r)
    unfolding with_late later_item
    late-whole x r =
        rw (late-tested x r)
        (elim (ltb x.time (beats r)) as (λ v. cond v (whole_run front b r ++ Cmd (later b x) ∷ []) (whole_run front b r) ≡ whole_run front b (cond v (r ++ Cmd x ∷ []) r)) [
          | true ↦ whole-append front b r (Cmd x ∷ [])
          | false ↦ refl
        ])

    pub arrival-whole :
        (x : Command) (runs : List (List Item))
        → proposed_by_arrival (later b x) (map (whole_run front b) runs) ≡ map (whole_run front b) (proposed_by_arrival x runs)
    arrival-whole x [] = refl
    arrival-whole x (r ∷ runs) = rw (late-whole x r, arrival-whole x runs) refl

-- ---- one command more

one-more :
    (b : ℕ) (all left : List Command) (x : Command) → filter (λ x. leb b x.time) all ≡ map (later b) left
    → filter (λ x. leb b x.time) (all ++ later b x ∷ []) ≡ map (later b) (left ++ x ∷ [])
one-more b all left x same =
    let due : leb b (later b x).time ≡ true = grind (arith, nat_tests) in
    filter-append (λ (y : Command). leb b y.time) all (later b x ∷ [])
    ∙ ap (λ (l : List Command). l ++ filter (λ y. leb b y.time) (later b x ∷ [])) same
    ∙ ap (λ (v : Bool). map (later b) left ++ cond v (later b x ∷ []) []) due
    ∙ sym (map-append (later b) left (x ∷ []))

same-front : (b : ℕ) (all : List Command) (x : Command) → ordered (all ++ later b x ∷ []) 0 b ≡ ordered all 0 b
same-front b all x = ticks-later all (later b x) 0 (b - 0) (omega arith)

-- ---- names

-- one of all passes a test where one of the older ones does, or one of the others
pub any-split :
    (b : ℕ) (p : Command → Bool) (xs : List Command)
    → list_any p xs ≡ list_any p (filter (λ y. ltb y.time b) xs) || list_any p (filter (λ y. leb b y.time) xs)
any-split b p [] = refl
any-split b p (x ∷ xs) =
    let rest = any-split b p xs in
    let other : leb b x.time ≡ not (ltb x.time b) = grind (arith, nat_tests) in
    rw other
    (elim (ltb x.time b) as (λ v. p x || list_any p xs
    ≡ list_any p (cond v (x ∷ filter (λ y. ltb y.time b) xs) (filter (λ y. ltb y.time b) xs))
    || list_any p (cond (not v) (x ∷ filter (λ y. leb b y.time) xs) (filter (λ y. leb b y.time) xs))) [
      | true ↦ rw rest (elim (p x) as (λ v. v || (list_any p (filter (λ y. ltb y.time b) xs) || list_any p (filter (λ y. leb b y.time) xs))
          ≡ (v || list_any p (filter (λ y. ltb y.time b) xs)) || list_any p (filter (λ y. leb b y.time) xs)) [ true ↦ refl | false ↦ refl ])
      | false ↦ rw rest (elim (list_any p (filter (λ y. ltb y.time b) xs)) as (λ v. p x || (v || list_any p (filter (λ y. leb b y.time) xs))
          ≡ v || (p x || list_any p (filter (λ y. leb b y.time) xs))) [ true ↦ elim (p x) as (λ u. u || true ≡ true) [ true ↦ refl | false ↦ refl ] | false ↦ refl ])
    ])

-- a name is had by later commands where it is by these
pub named-later : (b : ℕ) (x : Command) (ys : List Command) → list_any (same_name (later b x)) (map (later b) ys) ≡ list_any (same_name x) ys
unfolding same_name
named-later b x [] = refl
named-later b x (y ∷ ys) = ap (λ (v : Bool). same_name x y || v) (named-later b x ys)

-- ---- events

pub from_repeat :
    {W : Type 0} (b : ℕ) (s : MirrorState W) (x : Command) → is_repeat_from b s x ≡ true
    → (arrive_from b s x ≡ s) × (said_from b s x ≡ ToArrive Repeat)
unfolding arrive_from said_from
from_repeat b s x again = (rw again refl, rw again refl)

pub from_late :
    {W : Type 0} (b : ℕ) (s : MirrorState W) (x : Command) → is_repeat_from b s x ≡ false → is_late s x ≡ true
    → (arrive_from b s x ≡ away s x) × (said_from b s x ≡ ToArrive (Late (last_clock s.runs)))
unfolding arrive_from said_from
from_late b s x new late = (rw (new, late) refl, rw (new, late) refl)

pub from_taken :
    {W : Type 0} (b : ℕ) (s : MirrorState W) (x : Command) → is_repeat_from b s x ≡ false → is_late s x ≡ false
    → (arrive_from b s x ≡ taken s x) × (said_from b s x ≡ said_taken s x)
unfolding arrive_from said_from
from_taken b s x new due = (rw (new, due) refl, rw (new, due) refl)

-- a clock that stands before the match's end isn't over
not-over : {W : Type 0} (s : MirrorState W) → s.clock < s.length → is_over s ≡ false
not-over s before = grind (arith, nat_tests)

-- a copy stands at its limit in the whole where it does in what is left
first-limit :
    (long short clock left d b k : ℕ) → clock ≡ left + b → clock < long → left < short
    → leb (min long (clock - d)) (b + k) ≡ leb (min short (left - d)) k
first-limit long short clock left d b k at before before_left = grind (arith, nat_tests)

other-limit :
    (long short clock left d b ahead k : ℕ) → clock ≡ left + b → clock < long → left < short
    → leb (min (min long (clock - d)) (b + ahead)) (b + k) ≡ leb (min (min short (left - d)) ahead) k
other-limit long short clock left d b ahead k at before before_left = grind (arith, nat_tests)

module _ {W : Type 0} (rules : Rules W) (b : ℕ) (whole left : MirrorState W) (h : IsLeft rules b whole left) where
  long : beats (ordered whole.accepted 0 b) ≡ b
  long = beats-ordered whole.accepted 0 b ∙ omega arith

  pub same-delays : delays_of whole ≡ delays_of left
  same-delays = rw (h.plans, h.plan) refl

  pub as-many : length whole.runs ≡ length left.runs
  as-many = ap length h.runs ∙ length-map left.runs (whole_run (ordered whole.accepted 0 b) b)

  pub copy-clocks : (c : ℕ) → c < length left.runs → copy_clock whole.runs c ≡ b + copy_clock left.runs c
  copy-clocks c there =
      ap (λ (runs : List (List Item)). copy_clock runs c) h.runs
      ∙ clock-whole b whole.accepted left.accepted h.accepted (ordered whole.accepted 0 b) long left.runs c there

  pub last-clocks : last_clock whole.runs ≡ b + last_clock left.runs
  last-clocks = ap last_clock h.runs ∙ last-whole b whole.accepted left.accepted h.accepted (ordered whole.accepted 0 b) long left.runs h.some_copy

-- a tick and a step are answered alike: neither clock is at the match's end, or both clocks and copies
-- come to it at once
pub record EndAlike {W : Type 0} (whole left : MirrorState W) : Type 0 where
  pub over : is_over whole ≡ is_over left
  pub idle : (c : ℕ) → c < length left.runs → is_idle whole c ≡ is_idle left c

-- where neither clock is at the match's end
module _ {W : Type 0} (rules : Rules W) (b : ℕ) (whole left : MirrorState W) (h : IsLeft rules b whole left)
    (before : whole.clock < whole.length) (before_left : left.clock < left.length) where
  same-idle : (c : ℕ) → c < length left.runs → is_idle whole c ≡ is_idle left c
  unfolding step_limit limit_at
  same-idle zero there =
      rw (copy-clocks rules b whole left h zero there, same-delays rules b whole left h)
      (first-limit whole.length left.length whole.clock left.clock (get_or (delays_of left) zero 0) b (copy_clock left.runs zero) h.clock before before_left)
  same-idle (suc c) there =
      rw (copy-clocks rules b whole left h (suc c) there, copy-clocks rules b whole left h c (omega arith), same-delays rules b whole left h)
      (other-limit whole.length left.length whole.clock left.clock (get_or (delays_of left) (suc c) 0) b (copy_clock left.runs c) (copy_clock left.runs (suc c)) h.clock before before_left)

  pub before-alike : EndAlike whole left
  before-alike = record { over = not-over whole before ∙ sym (not-over left before_left); idle = same-idle }

-- where what is left ends where the whole does
first-end :
    (long short clock left d b k : ℕ) → clock ≡ left + b → long ≡ short + b
    → leb (min long (clock - d)) (b + k) ≡ leb (min short (left - d)) k
first-end long short clock left d b k at ends = grind (arith, nat_tests)

other-end :
    (long short clock left d b ahead k : ℕ) → clock ≡ left + b → long ≡ short + b
    → leb (min (min long (clock - d)) (b + ahead)) (b + k) ≡ leb (min (min short (left - d)) ahead) k
other-end long short clock left d b ahead k at ends = grind (arith, nat_tests)

over-end : (long short clock left d b : ℕ) → clock ≡ left + b → long ≡ short + b → leb (long + d) clock ≡ leb (short + d) left
over-end long short clock left d b at ends = grind (arith, nat_tests)

module _ {W : Type 0} (rules : Rules W) (b : ℕ) (whole left : MirrorState W) (h : IsLeft rules b whole left) (ends : whole.length ≡ left.length + b) where
  end-over : is_over whole ≡ is_over left
  end-over =
      ap (λ (ds : List ℕ). leb (whole.length + last_of 0 ds) whole.clock) (same-delays rules b whole left h)
      ∙ over-end whole.length left.length whole.clock left.clock (last_of 0 (delays_of left)) b h.clock ends

  end-idle : (c : ℕ) → c < length left.runs → is_idle whole c ≡ is_idle left c
  unfolding step_limit limit_at
  end-idle zero there =
      rw (copy-clocks rules b whole left h zero there, same-delays rules b whole left h)
      (first-end whole.length left.length whole.clock left.clock (get_or (delays_of left) zero 0) b (copy_clock left.runs zero) h.clock ends)
  end-idle (suc c) there =
      rw (copy-clocks rules b whole left h (suc c) there, copy-clocks rules b whole left h c (omega arith), same-delays rules b whole left h)
      (other-end whole.length left.length whole.clock left.clock (get_or (delays_of left) (suc c) 0) b (copy_clock left.runs c) (copy_clock left.runs (suc c)) h.clock ends)

  pub end-alike : EndAlike whole left
  end-alike = record { over = end-over; idle = end-idle }

module _ {W : Type 0} (rules : Rules W) (b : ℕ) (whole left : MirrorState W) (h : IsLeft rules b whole left) (alike : EndAlike whole left) where
  tick-left-over :
      IsLeft rules b (next whole Tick) (next left Tick) × (said whole Tick ≡ later_reply b (said left Tick))
  unfolding later_reply
  tick-left-over =
      elim (is_over left) as (λ v. is_over left ≡ v → IsLeft rules b (next whole Tick) (next left Tick) × (said whole Tick ≡ later_reply b (said left Tick))) [
        | true ↦ λ e.
            let w = tick_over whole (alike.over ∙ e) in
            let l = tick_over left e in
            (rw (w.0, l.0) h, rw (w.1, l.1) refl)
        | false ↦ λ e.
            let w = tick_moved whole (alike.over ∙ e) in
            let l = tick_moved left e in (
              rw (w.0, l.0) (record {
                some_copy = h.some_copy;
                opening = h.opening;
                plans = h.plans;
                plan = h.plan;
                clock = (let clock = h.clock in omega arith);
                accepted = h.accepted;
                runs = h.runs;
              }),
              rw (w.1, l.1) refl,
            )
      ]
      refl

  restagger-left-over :
      (p : ℕ) → IsLeft rules b (next whole (Restagger p)) (next left (Restagger p)) × (said whole (Restagger p) ≡ later_reply b (said left (Restagger p)))
  unfolding next said later_reply
  restagger-left-over p = (
    record {
      some_copy = h.some_copy;
      opening = h.opening;
      plans = h.plans;
      plan = refl;
      clock = h.clock;
      accepted = h.accepted;
      runs = h.runs;
    },
    refl,
  )

  steps-whole : (c : ℕ) → c < length left.runs
      → proposed_by_step whole.accepted whole.runs c ≡ map (whole_run (ordered whole.accepted 0 b) b) (proposed_by_step left.accepted left.runs c)
  steps-whole c there =
      ap (λ (runs : List (List Item)). proposed_by_step whole.accepted runs c) h.runs
      ∙ step-whole b whole.accepted left.accepted h.accepted (ordered whole.accepted 0 b) (long rules b whole left h) left.runs c there

  step-left-over :
      (c : ℕ) → c < length left.runs
      → IsLeft rules b (next whole (Step c)) (next left (Step c)) × (said whole (Step c) ≡ later_reply b (said left (Step c)))
  unfolding later_reply
  step-left-over c there =
      elim (is_idle left c) as (λ v. is_idle left c ≡ v → IsLeft rules b (next whole (Step c)) (next left (Step c)) × (said whole (Step c) ≡ later_reply b (said left (Step c)))) [
        | true ↦ λ e.
            let w = step_idle whole c (alike.idle c there ∙ e) in
            let l = step_idle left c e in
            (rw (w.0, l.0) h, rw (w.1, l.1) refl)
        | false ↦ λ e.
            let w = step_ran whole c (alike.idle c there ∙ e) in
            let l = step_ran left c e in
            let settled =
            ap (settle whole.accepted) (steps-whole c there)
            ∙ settle-whole b whole.accepted left.accepted h.accepted (ordered whole.accepted 0 b) (long rules b whole left h) (proposed_by_step left.accepted left.runs c) in
            let counted =
            ap (repaired whole.accepted) (steps-whole c there)
            ∙ repaired-whole b whole.accepted left.accepted h.accepted (ordered whole.accepted 0 b) (long rules b whole left h) (proposed_by_step left.accepted left.runs c) in
            let some = h.some_copy in (
              rw (w.0, l.0) (record {
                some_copy =
                    omega (
                      arith,
                      settle-length left.accepted (proposed_by_step left.accepted left.runs c),
                      length-set left.runs c (with_tick left.accepted (get_or left.runs c [])),
                    );
                opening = h.opening;
                plans = h.plans;
                plan = h.plan;
                clock = h.clock;
                accepted = h.accepted;
                runs = settled;
              }),
              rw (w.1, l.1) (ap (λ (n : ℕ). ToStep (Ran n)) counted),
            )
      ]
      refl

-- a command is answered so wherever the clocks are
module _ {W : Type 0} (rules : Rules W) (b : ℕ) (whole left : MirrorState W) (h : IsLeft rules b whole left) where
  module _ (x : Command) where
    same-repeat : list_any (same_name (later b x)) (filter (λ y. ltb y.time b) whole.accepted) ≡ false → is_repeat whole (later b x) ≡ is_repeat left x
    same-repeat new =
        any-split b (same_name (later b x)) whole.accepted
        ∙ ap (λ (v : Bool). v || list_any (same_name (later b x)) (filter (λ y. leb b y.time) whole.accepted)) new
        ∙ ap (list_any (same_name (later b x))) h.accepted
        ∙ named-later b x left.accepted

    same-late : is_late whole (later b x) ≡ is_late left x
    same-late = ap (ltb (later b x).time) (last-clocks rules b whole left h) ∙ grind (arith, nat_tests)

    arrivals-whole :
        proposed_by_arrival (later b x) whole.runs ≡ map (whole_run (ordered whole.accepted 0 b) b) (proposed_by_arrival x left.runs)
    arrivals-whole =
        ap (proposed_by_arrival (later b x)) h.runs
        ∙ arrival-whole b whole.accepted left.accepted h.accepted (ordered whole.accepted 0 b) (long rules b whole left h) x left.runs

    taken-runs :
        settle (whole.accepted ++ later b x ∷ []) (proposed_by_arrival (later b x) whole.runs)
        ≡ map (whole_run (ordered (whole.accepted ++ later b x ∷ []) 0 b) b) (settle (left.accepted ++ x ∷ []) (proposed_by_arrival x left.runs))
    taken-runs =
        ap (settle (whole.accepted ++ later b x ∷ [])) arrivals-whole
        ∙ settle-whole b (whole.accepted ++ later b x ∷ []) (left.accepted ++ x ∷ []) (one-more b whole.accepted left.accepted x h.accepted) (ordered whole.accepted 0 b) (long rules b whole left h) (proposed_by_arrival x left.runs)
        ∙ ap (λ (l : List Item). map (whole_run l b) (settle (left.accepted ++ x ∷ []) (proposed_by_arrival x left.runs))) (sym (same-front b whole.accepted x))

    taken-count :
        repaired (whole.accepted ++ later b x ∷ []) (proposed_by_arrival (later b x) whole.runs)
        ≡ repaired (left.accepted ++ x ∷ []) (proposed_by_arrival x left.runs)
    taken-count =
        ap (repaired (whole.accepted ++ later b x ∷ [])) arrivals-whole
        ∙ repaired-whole b (whole.accepted ++ later b x ∷ []) (left.accepted ++ x ∷ []) (one-more b whole.accepted left.accepted x h.accepted) (ordered whole.accepted 0 b) (long rules b whole left h) (proposed_by_arrival x left.runs)

    taken-left : IsLeft rules b (taken whole (later b x)) (taken left x)
    taken-left = (let some = h.some_copy in record {
      some_copy =
          omega (
            arith,
            settle-length (left.accepted ++ x ∷ []) (proposed_by_arrival x left.runs),
            length-map left.runs (with_late x),
          );
      opening = h.opening ∙ ap (world_of rules whole.opening) (sym (same-front b whole.accepted x));
      plans = h.plans;
      plan = h.plan;
      clock = h.clock;
      accepted = one-more b whole.accepted left.accepted x h.accepted;
      runs = taken-runs;
    })

    arrival-left-over :
        list_any (same_name (later b x)) (filter (λ y. ltb y.time b) whole.accepted) ≡ false
        → IsLeft rules b (next whole (Arrive (later b x))) (next left (Arrive x))
        × (said whole (Arrive (later b x)) ≡ later_reply b (said left (Arrive x)))
    unfolding later_reply
    arrival-left-over new =
        elim (is_repeat left x) as (λ v. is_repeat left x ≡ v
        → IsLeft rules b (next whole (Arrive (later b x))) (next left (Arrive x)) × (said whole (Arrive (later b x)) ≡ later_reply b (said left (Arrive x)))) [
          | true ↦ λ e.
              let w = arrive_repeat whole (later b x) (same-repeat new ∙ e) in
              let l = arrive_repeat left x e in
              (rw (w.0, l.0) h, rw (w.1, l.1) refl)
          | false ↦ λ e.
              elim (is_late left x) as (λ v. is_late left x ≡ v
              → IsLeft rules b (next whole (Arrive (later b x))) (next left (Arrive x)) × (said whole (Arrive (later b x)) ≡ later_reply b (said left (Arrive x)))) [
                | true ↦ λ old.
                    let w = arrive_late whole (later b x) (same-repeat new ∙ e) (same-late ∙ old) in
                    let l = arrive_late left x e old in
                    let bound : last_clock whole.runs ≡ last_clock left.runs + b = (last-clocks rules b whole left h) ∙ omega arith in (
                      rw (w.0, l.0) (record {
                        some_copy = h.some_copy;
                        opening = h.opening;
                        plans = h.plans;
                        plan = h.plan;
                        clock = h.clock;
                        accepted = h.accepted;
                        runs = h.runs;
                      }),
                      rw (w.1, l.1) (ap (λ (n : ℕ). ToArrive (Late n)) bound),
                    )
                | false ↦ λ due.
                    let w = arrive_taken whole (later b x) (same-repeat new ∙ e) (same-late ∙ due) in
                    let l = arrive_taken left x e due in
                    (rw (w.0, l.0) taken-left, rw (w.1, l.1) (ap (λ (n : ℕ). ToArrive (Taken n)) taken-count))
              ]
              refl
        ]
        refl

    -- the same where the whole asks of names what is due from the base on
    remembered-repeat : is_repeat_from b whole (later b x) ≡ is_repeat left x
    remembered-repeat = ap (list_any (same_name (later b x))) h.accepted ∙ named-later b x left.accepted

    pub arrival-exact :
        IsLeft rules b (arrive_from b whole (later b x)) (next left (Arrive x))
        × (said_from b whole (later b x) ≡ later_reply b (said left (Arrive x)))
    unfolding later_reply
    arrival-exact =
        elim (is_repeat left x) as (λ v. is_repeat left x ≡ v
        → IsLeft rules b (arrive_from b whole (later b x)) (next left (Arrive x)) × (said_from b whole (later b x) ≡ later_reply b (said left (Arrive x)))) [
          | true ↦ λ e.
              let w = from_repeat b whole (later b x) (remembered-repeat ∙ e) in
              let l = arrive_repeat left x e in
              (rw (w.0, l.0) h, rw (w.1, l.1) refl)
          | false ↦ λ e.
              elim (is_late left x) as (λ v. is_late left x ≡ v
              → IsLeft rules b (arrive_from b whole (later b x)) (next left (Arrive x)) × (said_from b whole (later b x) ≡ later_reply b (said left (Arrive x)))) [
                | true ↦ λ old.
                    let w = from_late b whole (later b x) (remembered-repeat ∙ e) (same-late ∙ old) in
                    let l = arrive_late left x e old in
                    let bound : last_clock whole.runs ≡ last_clock left.runs + b = (last-clocks rules b whole left h) ∙ omega arith in (
                      rw (w.0, l.0) (record {
                        some_copy = h.some_copy;
                        opening = h.opening;
                        plans = h.plans;
                        plan = h.plan;
                        clock = h.clock;
                        accepted = h.accepted;
                        runs = h.runs;
                      }),
                      rw (w.1, l.1) (ap (λ (n : ℕ). ToArrive (Late n)) bound),
                    )
                | false ↦ λ due.
                    let w = from_taken b whole (later b x) (remembered-repeat ∙ e) (same-late ∙ due) in
                    let l = arrive_taken left x e due in
                    (rw (w.0, l.0) taken-left, rw (w.1, l.1) (ap (λ (n : ℕ). ToArrive (Taken n)) taken-count))
              ]
              refl
        ]
        refl

-- an event that is answered alike
event-alike :
    {W : Type 0} (rules : Rules W) (b : ℕ) (whole left : MirrorState W) (e : Event)
    → IsLeft rules b whole left → EndAlike whole left
    → IsRemembered b whole (later_event b e)
    → IsLeft rules b (next whole (later_event b e)) (next left e) × (said whole (later_event b e) ≡ later_reply b (said left e))
unfolding later_event
event-alike rules b whole left Tick h alike new = tick-left-over rules b whole left h alike
event-alike rules b whole left (Arrive x) h alike new = arrival-left-over rules b whole left h x new
event-alike rules b whole left (Step c) h alike new =
    step-left-over rules b whole left h alike c (let n = as-many rules b whole left h in omega arith)
event-alike rules b whole left (Restagger p) h alike new = restagger-left-over rules b whole left h alike p

pub event-left-over :
    {W : Type 0} (rules : Rules W) (b : ℕ) (whole left : MirrorState W) (e : Event)
    → IsLeft rules b whole left → whole.clock < whole.length → left.clock < left.length
    → IsRemembered b whole (later_event b e)
    → IsLeft rules b (next whole (later_event b e)) (next left e) × (said whole (later_event b e) ≡ later_reply b (said left e))
event-left-over rules b whole left e h before before_left new =
    event-alike rules b whole left e h (before-alike rules b whole left h before before_left) new

-- the same to the match's end
pub event-to-the-end :
    {W : Type 0} (rules : Rules W) (b : ℕ) (whole left : MirrorState W) (e : Event)
    → IsLeft rules b whole left → whole.length ≡ left.length + b
    → IsRemembered b whole (later_event b e)
    → IsLeft rules b (next whole (later_event b e)) (next left e) × (said whole (later_event b e) ≡ later_reply b (said left e))
event-to-the-end rules b whole left e h ends new = event-alike rules b whole left e h (end-alike rules b whole left h ends) new

-- ---- a mirror that is put at its base

put-runs : (front : List Item) (b : ℕ) (f : List Item → List Item) (runs : List (List Item))
    → map (λ (run : List Item). front) (map f runs) ≡ map (whole_run front b) (map (λ (run : List Item). []) runs)
put-runs front b f [] = refl
put-runs front b f (r ∷ runs) =
    ap (λ (l : List (List Item)). front ∷ l) (put-runs front b f runs)
    ∙ ap (λ (l : List Item). l ∷ map (whole_run front b) (map (λ (run : List Item). []) runs)) (sym (append-nil front))

pub based-left :
    {W : Type 0} (rules : Rules W) (b : ℕ) (whole left : MirrorState W) → IsLeft rules b whole left
    → IsLeft rules b (at_base b whole) (left_at_base left)
based-left rules b whole left h = (let some = h.some_copy in record {
  some_copy = omega (arith, length-map {B = List Item} left.runs (λ (run : List Item). []));
  opening = h.opening;
  plans = h.plans;
  plan = h.plan;
  clock = omega arith;
  accepted = h.accepted;
  runs =
      ap (map (λ (run : List Item). ordered whole.accepted 0 b)) h.runs
      ∙ put-runs (ordered whole.accepted 0 b) b (whole_run (ordered whole.accepted 0 b) b) left.runs;
})

-- where no name of what was forgotten comes again, asking of all names is asking of those from there on
pub remembered-decides :
    {W : Type 0} (b : ℕ) (s : MirrorState W) (x : Command) → list_any (same_name x) (filter (λ y. ltb y.time b) s.accepted) ≡ false
    → (arrive_from b s x ≡ next s (Arrive x)) × (said_from b s x ≡ said s (Arrive x))
unfolding arrive_from said_from next said
remembered-decides b s x known =
    let same : is_repeat s x ≡ is_repeat_from b s x = any-split b (same_name x) s.accepted ∙ ap (λ (v : Bool). v || is_repeat_from b s x) known in
    (rw same refl, rw same refl)
