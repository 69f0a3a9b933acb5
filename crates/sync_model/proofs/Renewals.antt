-- Which copies an event renews, told without the runs that it leaves.
use Rattle.std.proofs.Common.{◌≡◌, ℕ, zero, suc, ◌≤◌, ◌<◌, Bool, true, false, not, ◌&&◌, ◌||◌, ltb, leb, List, [], ◌∷◌, ◌++◌, map, length, get_or, set, refl}
use Rattle.std.proofs.Common.{ap, sym, ◌∙◌, subst, ⊎_elim, append-nil, arith}
use Rattle.std.specs.Prelude.{◌==◌, nat_lt, nat_le}
use Rattle.std.specs.List.{AllByRecursion, list_any}
use Rattle.std.proofs.lemmas.Bool.{ltb-false, leb-true, leb-false, lt-ltb, cases_eq, both_ways}
use Rattle.std.proofs.lemmas.Bool.Decides.{nat_tests, Decides-eqb}
use Rattle.std.proofs.lemmas.List.{get_or-set_other}
use Rattle.game_trait.specs.declared.command.Command.{Command}
use Rattle.game_trait.specs.declared.command.Item.{Item}
use Rattle.game_trait.specs.declared.command.Item.TheVariants.{Cmd, Beat}
use Rattle.game_trait.specs.declared.event.Event.TheVariants.{Tick, Arrive, Step}
use Rattle.game_trait.specs.Run.{beats, commands_of, IsPrefix}
use Rattle.game_trait.specs.Ordered.{tick_of}
use Rattle.game_trait.specs.Count.{times}
use Rattle.game_trait.proofs.Counts.{times-append}
use Rattle.game_trait.proofs.OrderedParts.{times-tick_of}
use Rattle.sync_model.specs.State.{MirrorState, copy_clock}
use Rattle.sync_model.specs.Settle.{begins_with, rebuilt, settle, repaired}
use Rattle.sync_model.specs.Change.{is_repeat, is_late, is_idle, with_late, with_tick, proposed_by_arrival, proposed_by_step}
use Rattle.sync_model.specs.Staggered.{IsChained, IsComplete, IsStaggered}
use Rattle.sync_model.specs.Repairs.{is_late_at, rebuild}
use Rattle.sync_model.specs.Drafts.{run_of, differs, renews}
use Rattle.sync_model.proofs.Settle.{begins_with-Decides, settled_chained, settle-length}
use Rattle.sync_model.proofs.Proposals.{beats-with_tick, complete-tick, due_at-later}
use Rattle.sync_model.proofs.Trailing.{beats-front, IsBehindAhead, trailing-arrival}
use Rattle.sync_model.proofs.Staggered.{below_limit}
use Rattle.sync_model.proofs.Cases.{moved, away, taken, ran, tick-cases, arrive-cases, step-cases}
use Rattle.sync_model.proofs.Clocks.{ran-moves}
use Rattle.sync_model.proofs.Drain.{equal_clocks}
use Rattle.sync_model.proofs.Repairs.{fronts-compare}
use Rattle.sync_model.proofs.Arrivals.{falls-all, head-late}
use Rattle.sync_model.proofs.Rebuilt.{rebuilt_level, step_first, step_front, step_apart, arrival_early, front-at}
use Rattle.sync_model.proofs.Epochs.{differs-same, differs-some, settle_one-behind}

-- ---- a tick of the clock

pub tick_renews : {W : Type 0} (s : MirrorState W) (c : ℕ) → renews s c Tick ≡ false
tick_renews s c = tick-cases s (λ t r. differs s t c ≡ false) (λ e. differs-same s s c refl refl) (λ e. differs-same s (moved s) c refl refl)

-- ---- an arrival

-- a copy that isn't there is complete too
complete-none : (accepted : List Command) → IsComplete accepted []
unfolding IsComplete commands_of times beats
complete-none [] test = refl
complete-none (x ∷ xs) test =
    let more : 0 ≡ times (λ y. test y && ltb y.time 0) xs = complete-none xs test in
    let never : (test x && ltb x.time 0) ≡ false = grind (arith, nat_tests) in
    rw never (omega (arith, more))

pub complete-at : (accepted : List Command) (runs : List (List Item)) (c : ℕ) → AllByRecursion (IsComplete accepted) runs → IsComplete accepted (get_or runs c [])
complete-at accepted [] c h = complete-none accepted
complete-at accepted (run ∷ runs) zero h = h.0
complete-at accepted (run ∷ runs) (suc c) h = complete-at accepted runs c h.1

one-passes : (p : Command → Bool) (x : Command) → p x ≡ true → times p (x ∷ []) ≡ 1
unfolding times
one-passes p x h = rw h refl

-- no run is complete with a command older than its clock and without it
run-gains :
    (accepted : List Command) (x : Command) (run : List Item) → x.time < beats run → IsComplete accepted run → IsComplete (accepted ++ x ∷ []) run → ⊥
unfolding IsComplete
run-gains accepted x run older less more =
    let all = λ (y : Command). true in
    let old = less (λ y. true) in
    let new = more (λ y. true) in
    let sum = times-append (λ (y : Command). true && ltb y.time (beats run)) accepted (x ∷ []) in
    let one = one-passes (λ (y : Command). true && ltb y.time (beats run)) x (lt-ltb x.time (beats run) older) in
    omega arith

-- a tick gains a command that is due then
tick-gains : (accepted : List Command) (x : Command) (t : ℕ) → x.time ≡ t → tick_of accepted t ≡ tick_of (accepted ++ x ∷ []) t → ⊥
tick-gains accepted x t due same =
    let old = times-tick_of (λ (y : Command). true) accepted t in
    let new = times-tick_of (λ (y : Command). true) (accepted ++ x ∷ []) t in
    let kept = ap (λ (tick : List Item). times (λ (y : Command). true) (commands_of tick)) same in
    let sum = times-append (λ (y : Command). true && (y.time == t)) accepted (x ∷ []) in
    let is_due : (x.time == t) ≡ true = (Decides-eqb x.time t).1 due in
    let one = one-passes (λ (y : Command). true && (y.time == t)) x is_due in
    omega arith

-- a copy at which the command isn't late keeps its run
settled-early :
    (accepted : List Command) (x : Command) (runs : List (List Item)) (c : ℕ) → IsChained runs → copy_clock runs c ≤ x.time
    → get_or (settle (accepted ++ x ∷ []) (proposed_by_arrival x runs)) c [] ≡ get_or runs c []
unfolding settle IsChained
settled-early accepted x [] c chained early = refl
settled-early accepted x (run ∷ behind) zero chained early =
    elim (list_any (is_late_at x) (run ∷ behind)) as (λ v. list_any (is_late_at x) (run ∷ behind) ≡ v → get_or (settle (accepted ++ x ∷ []) (proposed_by_arrival x (run ∷ behind))) zero [] ≡ run) [
      | true ↦ λ late. absurd (let older = head-late x run behind (falls-all run behind chained) late in omega arith)
      | false ↦ λ none. ap (λ (runs : List (List Item)). get_or runs zero []) (arrival_early accepted x (run ∷ behind) chained none).0
    ]
    refl
settled-early accepted x (run ∷ behind) (suc c) chained early =
    settle_one-behind (accepted ++ x ∷ []) (with_late x run) (settle (accepted ++ x ∷ []) (proposed_by_arrival x behind)) c
    ∙ settled-early accepted x behind c chained.1 early

taken-renews :
    {W : Type 0} (s : MirrorState W) (c : ℕ) (x : Command) → IsStaggered s → is_late s x ≡ false
    → differs s (taken s x) c ≡ nat_le x.time (copy_clock s.runs c)
taken-renews s c x here due =
    let after = trailing-arrival here.trailing x (ltb-false x.time _ due) in
    elim (leb x.time (copy_clock s.runs c)) as (λ v. leb x.time (copy_clock s.runs c) ≡ v → differs s (taken s x) c ≡ v) [
      | true ↦ λ e.
          let most = leb-true x.time (copy_clock s.runs c) e in
          differs-some s (taken s x) c
          (λ run tick.
          ⊎_elim
          (λ (same : x.time ≡ copy_clock s.runs c). tick-gains s.accepted x (copy_clock s.runs c) same tick)
          (λ (other : x.time ≡ copy_clock s.runs c → ⊥).
          run-gains s.accepted x (run_of s c) (let apart : x.time < copy_clock s.runs c = grind (arith, nat_tests) in apart)
          (complete-at s.accepted s.runs c here.trailing.complete)
          (subst (IsComplete (s.accepted ++ x ∷ [])) (sym run) (complete-at (s.accepted ++ x ∷ []) (taken s x).runs c after.complete)))
          (cases_eq x.time (copy_clock s.runs c)))
      | false ↦ λ e.
          let later = leb-false x.time (copy_clock s.runs c) e in
          differs-same s (taken s x) c (sym (settled-early s.accepted x s.runs c here.trailing.chained (omega arith)))
          (ap (λ (xs : List Command). map Cmd xs ++ Beat ∷ []) (sym (due_at-later s.accepted x (copy_clock s.runs c) later)))
    ]
    refl

pub arrival_renews :
    {W : Type 0} (s : MirrorState W) (c : ℕ) (x : Command) → IsStaggered s
    → renews s c (Arrive x) ≡ (not (is_repeat s x) && (not (is_late s x) && nat_le x.time (copy_clock s.runs c)))
arrival_renews s c x here =
    arrive-cases s x (λ t r. differs s t c ≡ (not (is_repeat s x) && (not (is_late s x) && nat_le x.time (copy_clock s.runs c))))
    (λ e. rw e (differs-same s s c refl refl))
    (λ e l. rw (e, l) (differs-same s (away s x) c refl refl))
    (λ e l. rw (e, l) (taken-renews s c x here l))

-- ---- a step

-- of chained runs each begins with those behind it
chained-front : (runs : List (List Item)) (i j : ℕ) → IsChained runs → i ≤ j → j < length runs → IsPrefix (get_or runs j []) (get_or runs i [])
unfolding IsChained
chained-front [] i j h order there = absurd (omega arith)
chained-front (run ∷ behind) zero zero h order there = ([], sym (append-nil run))
chained-front (run ∷ behind) zero (suc j) h order there = front-at run behind j h (omega arith)
chained-front (run ∷ behind) (suc i) zero h order there = absurd (omega arith)
chained-front (run ∷ behind) (suc i) (suc j) h order there = chained-front behind i j h.1 (omega arith) (omega arith)

rebuild-ahead : (accepted : List Command) (base : List Item) (n : ℕ) (runs : List (List Item)) (c : ℕ) → c < n
    → c < length runs → get_or (rebuild accepted base n runs) c [] ≡ rebuilt accepted (get_or runs c []) base
unfolding rebuild
rebuild-ahead accepted base zero runs c first there = absurd (omega arith)
rebuild-ahead accepted base (suc n) [] c first there = absurd (omega arith)
rebuild-ahead accepted base (suc n) (run ∷ behind) zero first there = refl
rebuild-ahead accepted base (suc n) (run ∷ behind) (suc c) first there = rebuild-ahead accepted base n behind c (omega arith) (omega arith)

rebuild-behind : (accepted : List Command) (base : List Item) (n : ℕ) (runs : List (List Item)) (c : ℕ) → n ≤ c → get_or (rebuild accepted base n runs) c [] ≡ get_or runs c []
unfolding rebuild
rebuild-behind accepted base zero runs c past = refl
rebuild-behind accepted base (suc n) [] c past = refl
rebuild-behind accepted base (suc n) (run ∷ behind) zero past = absurd (omega arith)
rebuild-behind accepted base (suc n) (run ∷ behind) (suc c) past = rebuild-behind accepted base n behind c (omega arith)

-- what a step does to the runs, as far as it is told here
record IsStepped (accepted : List Command) (runs : List (List Item)) (a : ℕ) : Type 0 where
  pub ahead : (c : ℕ) → c < repaired accepted (proposed_by_step accepted runs a) → get_or runs c [] ≡ get_or (settle accepted (proposed_by_step accepted runs a)) c [] → ⊥
  pub others :
      (c : ℕ) → repaired accepted (proposed_by_step accepted runs a) ≤ c → (c ≡ a → ⊥)
      → get_or (settle accepted (proposed_by_step accepted runs a)) c [] ≡ get_or runs c []

-- where none is repaired
stepped-alone :
    (accepted : List Command) (runs : List (List Item)) (a : ℕ)
    → (settle accepted (proposed_by_step accepted runs a) ≡ proposed_by_step accepted runs a) × (repaired accepted (proposed_by_step accepted runs a) ≡ 0)
    → IsStepped accepted runs a
stepped-alone accepted runs a h =
    let none = h.1 in
    record {
      ahead = λ c first same. omega arith;
      others = λ c past other.
          ap (λ (rs : List (List Item)). get_or rs c []) h.0 ∙ get_or-set_other runs a c (with_tick accepted (get_or runs a [])) [] other;
    }

-- a run that is repaired isn't what it was
repaired-differs :
    (accepted : List Command) (runs : List (List Item)) (b c : ℕ) → IsChained runs → AllByRecursion (IsComplete accepted) runs
    → suc b < length runs → copy_clock runs (suc b) < copy_clock runs b
    → begins_with (get_or runs b []) (with_tick accepted (get_or runs (suc b) [])) ≡ false
    → settle accepted (proposed_by_step accepted runs (suc b)) ≡ rebuild accepted (with_tick accepted (get_or runs (suc b) [])) (suc (suc b)) runs
    → c ≤ b → get_or runs c [] ≡ get_or (settle accepted (proposed_by_step accepted runs (suc b))) c [] → ⊥
repaired-differs accepted runs b c chained complete there room apart settled order same =
    let q = with_tick accepted (get_or runs (suc b) []) in
    let new = settle accepted (proposed_by_step accepted runs (suc b)) in
    let clock = beats-with_tick accepted (get_or runs (suc b) []) in
    let own : get_or new (suc b) [] ≡ q =
    ap (λ (rs : List (List Item)). get_or rs (suc b) []) settled
    ∙ rebuild-ahead accepted q (suc (suc b)) runs (suc b) (omega arith) there
    ∙ rebuilt_level accepted (get_or runs (suc b) []) q (omega arith) in
    let as_many : length new ≡ length runs = settle-length accepted (proposed_by_step accepted runs (suc b)) ∙ length-set-of runs (suc b) q in
    let front : IsPrefix (get_or new (suc b) []) (get_or new c []) = chained-front new c (suc b) (settled_chained accepted (proposed_by_step accepted runs (suc b))) (omega arith) (omega arith) in
    let front_new : IsPrefix q (get_or runs c []) = subst (λ (run : List Item). IsPrefix q run) (sym same) (subst (λ (run : List Item). IsPrefix run (get_or new c [])) own front) in
    let front_old : IsPrefix (get_or runs b []) (get_or runs c []) = chained-front runs c b chained order (omega arith) in
    ⊎_elim
    (λ (h : IsPrefix q (get_or runs b [])). both_ways (begins_with (get_or runs b []) q) apart ((begins_with-Decides (get_or runs b []) q).1 h))
    (λ (h : IsPrefix (get_or runs b []) q).
    let up = beats-front (get_or runs b []) q h in
    let equal = equal_clocks accepted (get_or runs b []) q (complete-at accepted runs b complete)
    (complete-tick accepted (get_or runs (suc b) []) (complete-at accepted runs (suc b) complete)) h
    (omega arith) in
    both_ways (begins_with (get_or runs b []) q) apart ((begins_with-Decides (get_or runs b []) q).1 ([], sym equal ∙ sym (append-nil q))))
    (fronts-compare q (get_or runs b []) (get_or runs c []) front_new front_old)
  where
    length-set-of : {X : Type 0} (xs : List X) (i : ℕ) (x : X) → length (set xs i x) ≡ length xs
    length-set-of [] i x = refl
    length-set-of (y ∷ ys) zero x = refl
    length-set-of (y ∷ ys) (suc i) x = ap suc (length-set-of ys i x)

stepped :
    (accepted : List Command) (runs : List (List Item)) (a : ℕ) → IsChained runs → AllByRecursion (IsComplete accepted) runs
    → IsBehindAhead runs a → a < length runs → IsStepped accepted runs a
unfolding IsBehindAhead
stepped accepted runs zero chained complete room there = stepped-alone accepted runs zero (step_first accepted runs chained)
stepped accepted runs (suc b) chained complete room there =
    let q = with_tick accepted (get_or runs (suc b) []) in
    elim (begins_with (get_or runs b []) (with_tick accepted (get_or runs (suc b) []))) as
    (λ v. begins_with (get_or runs b []) (with_tick accepted (get_or runs (suc b) [])) ≡ v
    → IsStepped accepted runs (suc b)) [
      | true ↦ λ front. stepped-alone accepted runs (suc b) (step_front accepted runs b chained front)
      | false ↦ λ apart.
          let closed = step_apart accepted runs b chained complete room there apart in
          let count = closed.1 in
          record {
            ahead = λ c first same. repaired-differs accepted runs b c chained complete there room apart closed.0 (omega arith) same;
            others = λ c past other.
                ap (λ (rs : List (List Item)). get_or rs c []) closed.0
                ∙ rebuild-behind accepted q (suc (suc b)) runs c (omega arith);
          }
    ]
    refl

ran-renews :
    {W : Type 0} (s : MirrorState W) (c a : ℕ) → IsStaggered s → a < length s.runs → is_idle s a ≡ false
    → differs s (ran s a) c ≡ ((c == a) || nat_lt c (repaired s.accepted (proposed_by_step s.accepted s.runs a)))
ran-renews s c a here there e =
    let told = stepped s.accepted s.runs a here.trailing.chained here.trailing.complete (below_limit s a e).0 there in
    let n = repaired s.accepted (proposed_by_step s.accepted s.runs a) in
    elim (c == a) as (λ v. (c == a) ≡ v → differs s (ran s a) c ≡ (v || nat_lt c (repaired s.accepted (proposed_by_step s.accepted s.runs a)))) [
      | true ↦ λ own.
          let same : c ≡ a = (Decides-eqb c a).0 own in
          let up = ran-moves s a here e there in
          differs-some s (ran s a) c
          (λ run tick.
          let kept : copy_clock s.runs c ≡ copy_clock (ran s a).runs c = ap beats run in
          let still : copy_clock s.runs a ≡ copy_clock (ran s a).runs a = subst (λ (i : ℕ). copy_clock s.runs i ≡ copy_clock (ran s a).runs i) same kept in
          omega arith)
      | false ↦ λ not_own.
          let other : c ≡ a → ⊥ = λ same. both_ways (c == a) not_own ((Decides-eqb c a).1 same) in
          elim (ltb c (repaired s.accepted (proposed_by_step s.accepted s.runs a))) as (λ v. ltb c (repaired s.accepted (proposed_by_step s.accepted s.runs a)) ≡ v → differs s (ran s a) c ≡ v) [
            | true ↦ λ first. differs-some s (ran s a) c (λ run tick. told.ahead c (let l : c < n = grind (arith, nat_tests) in l) run)
            | false ↦ λ past. differs-same s (ran s a) c (sym (told.others c (ltb-false c n past) other)) refl
          ]
          refl
    ]
    refl

pub step_renews :
    {W : Type 0} (s : MirrorState W) (c a : ℕ) → IsStaggered s → a < length s.runs
    → renews s c (Step a) ≡ (not (is_idle s a) && ((c == a) || nat_lt c (repaired s.accepted (proposed_by_step s.accepted s.runs a))))
step_renews s c a here there =
    step-cases s a (λ t r. differs s t c ≡ (not (is_idle s a) && ((c == a) || nat_lt c (repaired s.accepted (proposed_by_step s.accepted s.runs a)))))
    (λ e. rw e (differs-same s s c refl refl))
    (λ e. rw e (ran-renews s c a here there e))
