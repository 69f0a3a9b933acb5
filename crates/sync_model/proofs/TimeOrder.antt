-- Commands whose names come again, and copies that are in time order.
use Rattle.std.proofs.Common.{◌≡◌, ℕ, zero, suc, ◌+◌, ◌-◌, ◌≤◌, ◌<◌, Bool, true, false, cond, not, eqb, ltb, leb, ◌&&◌, ◌||◌, List, [], ◌∷◌, ◌++◌, map, filter, length, get_or, refl, ap, sym, ◌∙◌, subst, append-nil, arith}
use Rattle.std.specs.List.{AllByRecursion, list_any}
use Rattle.std.proofs.lemmas.Bool.Decides.{nat_tests}
use Rattle.game_trait.specs.declared.command.Command.{Command}
use Rattle.game_trait.specs.declared.command.Item.{Item}
use Rattle.game_trait.specs.declared.event.Event.{Event}
use Rattle.game_trait.specs.declared.event.Event.TheVariants.{Tick, Arrive, Step, Restagger}
use Rattle.game_trait.specs.Count.{times}
use Rattle.game_trait.specs.Events.{is_arrival}
use Rattle.game_trait.specs.Game.{Rules}
use Rattle.game_trait.specs.Keys.{same_name, NamesDiffer}
use Rattle.game_trait.specs.Ordered.{due_at, tick_of, ticks, ordered, time_ordered}
use Rattle.game_trait.specs.Run.{beats, commands_of, world_of}
use Rattle.game_trait.proofs.Counts.{times-agree, times-filter, times-in_key_order}
use Rattle.game_trait.proofs.KeyOrder.{KeysRise-in_key_order, rising-unique}
use Rattle.game_trait.proofs.OrderedParts.{beats-ordered, ordered-join, ordered-more}
use Rattle.sync_model.specs.Lists.{last_of}
use Rattle.sync_model.specs.State.{MirrorState, copy_clock, last_clock}
use Rattle.sync_model.specs.Settle.{settle, begins_with}
use Rattle.sync_model.specs.Change.{next, is_repeat, is_late, is_idle, with_tick, proposed_by_step}
use Rattle.sync_model.specs.Forgetting.{is_repeat_from, arrive_from, at_base}
use Rattle.sync_model.specs.Repairs.{is_late_at}
use Rattle.sync_model.specs.Staggered.{IsAhead, IsChained, IsComplete, IsNeverEarly, IsTrailing}
use Rattle.sync_model.specs.TimeOrder.{same_key, KeysDiffer, AreInTimeOrder, is_timely, brings_none_late}
use Rattle.sync_model.proofs.Cases.{taken, ran, tick-cases, arrive-cases, step-cases, restagger-cases}
use Rattle.sync_model.proofs.Forgetting.{from_repeat, from_late, from_taken}
use Rattle.sync_model.proofs.Lists.{all-put, last-map}
use Rattle.sync_model.proofs.Proposals.{beats-with_tick, complete-rebuilt, never_early-rebuilt, ticks-later}
use Rattle.sync_model.proofs.Rebuilt.{step_first, step_front, arrival_early}
use Rattle.sync_model.proofs.Settle.{begins_with-Decides}
use Rattle.sync_model.proofs.Staggered.{below_limit}
use Rattle.sync_model.proofs.Trailing.{IsBehindAhead}

-- ---- names that come again

-- commands of one tick whose keys differ have different names
apart : (x y : Command) → same_key x y ≡ false → x.time ≡ y.time → same_name x y ≡ false
unfolding same_key
apart x y differ at = (let same : eqb x.time y.time ≡ true = grind (arith, nat_tests) in rw same at differ)

names-apart :
    (x : Command) (t : ℕ) (ys : List Command) → x.time ≡ t → AllByRecursion (λ y. same_key x y ≡ false) ys
    → AllByRecursion (λ y. same_name x y ≡ false) (filter (λ y. eqb y.time t) ys)
names-apart x t [] at differ = tt
names-apart x t (y ∷ ys) at differ =
    elim (eqb y.time t) as (λ v. eqb y.time t ≡ v → AllByRecursion (λ z. same_name x z ≡ false) (cond v (y ∷ filter (λ z. eqb z.time t) ys) (filter (λ z. eqb z.time t) ys))) [
      | true ↦ λ e. (apart x y differ.0 (grind (arith, nat_tests)), names-apart x t ys at differ.1)
      | false ↦ λ e. names-apart x t ys at differ.1
    ] refl

names-at : (t : ℕ) (xs : List Command) → KeysDiffer xs → NamesDiffer (filter (λ x. eqb x.time t) xs)
unfolding KeysDiffer NamesDiffer
names-at t [] differ = tt
names-at t (x ∷ xs) differ =
    elim (eqb x.time t) as (λ v. eqb x.time t ≡ v → NamesDiffer (cond v (x ∷ filter (λ y. eqb y.time t) xs) (filter (λ y. eqb y.time t) xs))) [
      | true ↦ λ e. (names-apart x t xs (grind (arith, nat_tests)) differ.0, names-at t xs differ.1)
      | false ↦ λ e. names-at t xs differ.1
    ] refl

-- a command that is due from a tick on, and whose name none has that is due from there on, has a new key
new-key :
    (b : ℕ) (x : Command) (ys : List Command) → b ≤ x.time → list_any (same_name x) (filter (λ y. leb b y.time) ys) ≡ false
    → list_any (same_key x) ys ≡ false
unfolding same_key
new-key b x [] due new = refl
new-key b x (y ∷ ys) due new =
    elim (leb b y.time) as (λ v. leb b y.time ≡ v → list_any (same_name x) (cond v (y ∷ filter (λ z. leb b z.time) ys) (filter (λ z. leb b z.time) ys)) ≡ false
    → ((eqb x.time y.time && same_name x y) || list_any (same_key x) ys) ≡ false) [
      | true ↦ λ e n.
          elim (same_name x y) as (λ u. (u || list_any (same_name x) (filter (λ z. leb b z.time) ys)) ≡ false → ((eqb x.time y.time && u) || list_any (same_key x) ys) ≡ false) [
            | true ↦ λ k. absurd cc
            | false ↦ λ k.
                let more = new-key b x ys due k in
                elim (eqb x.time y.time) as (λ w. ((w && false) || list_any (same_key x) ys) ≡ false) [ true ↦ more | false ↦ more ]
          ] n
      | false ↦ λ e n. let other : eqb x.time y.time ≡ false = grind (arith, nat_tests) in rw other (new-key b x ys due n)
    ] refl new

key-sym : (x y : Command) → same_key x y ≡ false → same_key y x ≡ false
unfolding same_key same_name
key-sym x y e = grind (arith, nat_tests)

keys-none : (x : Command) (ys : List Command) → list_any (same_key x) ys ≡ false → AllByRecursion (λ y. same_key y x ≡ false) ys
keys-none x [] none = tt
keys-none x (y ∷ ys) none =
    elim (same_key x y) as (λ v. same_key x y ≡ v → (v || list_any (same_key x) ys) ≡ false → (same_key y x ≡ false) × AllByRecursion (λ z. same_key z x ≡ false) ys) [
      | true ↦ λ e n. absurd cc
      | false ↦ λ e n. (key-sym x y e, keys-none x ys n)
    ] refl none

all-last : (x : Command) (P : Command → Type 0) (ys : List Command) → AllByRecursion P ys → P x → AllByRecursion P (ys ++ x ∷ [])
all-last x P [] here last = (last, tt)
all-last x P (y ∷ ys) here last = (here.0, all-last x P ys here.1 last)

keys-push : (xs : List Command) (x : Command) → KeysDiffer xs → AllByRecursion (λ y. same_key y x ≡ false) xs → KeysDiffer (xs ++ x ∷ [])
unfolding KeysDiffer
keys-push [] x differ new = (tt, tt)
keys-push (y ∷ ys) x differ new = (all-last x (λ z. same_key y z ≡ false) ys differ.0 new.0, keys-push ys x differ.1 new.1)

-- what a mirror accepts that asks of names from a tick on which its last copy has run goes on having different keys
pub keys-kept :
    {W : Type 0} (b : ℕ) (s : MirrorState W) (x : Command) → b ≤ last_clock s.runs → KeysDiffer s.accepted → KeysDiffer (arrive_from b s x).accepted
keys-kept {W} b s x behind differ =
    elim (is_repeat_from b s x) as (λ v. is_repeat_from b s x ≡ v → KeysDiffer (arrive_from b s x).accepted) [
      | true ↦ λ e. subst (λ (t : MirrorState W). KeysDiffer t.accepted) (sym (from_repeat b s x e).0) differ
      | false ↦ λ e.
          elim (is_late s x) as (λ v. is_late s x ≡ v → KeysDiffer (arrive_from b s x).accepted) [
            | true ↦ λ l. subst (λ (t : MirrorState W). KeysDiffer t.accepted) (sym (from_late b s x e l).0) differ
            | false ↦ λ l.
                let due : b ≤ x.time = grind (arith, nat_tests) in
                subst (λ (t : MirrorState W). KeysDiffer t.accepted) (sym (from_taken b s x e l).0)
                (keys-push s.accepted x differ (keys-none x s.accepted (new-key b x s.accepted due e)))
          ] refl
    ] refl

-- ---- the same commands, in any order of acceptance

module _ (k : ℕ) (some other : List Command) (left : KeysDiffer some) (right : KeysDiffer other)
    (same : (test : Command → Bool) → times (λ x. test x && ltb x.time k) some ≡ times (λ x. test x && ltb x.time k) other) where
  older : (t : ℕ) → t < k → (xs : List Command) (p : Command → Bool)
      → times p (due_at xs t) ≡ times (λ x. (p x && eqb x.time t) && ltb x.time k) xs
  older t before xs p =
      times-in_key_order p (filter (λ x. eqb x.time t) xs) ∙ times-filter p (λ x. eqb x.time t) xs
      ∙ times-agree (λ x. p x && eqb x.time t) (λ x. (p x && eqb x.time t) && ltb x.time k) xs (λ x. grind (arith, nat_tests))

  due-same : (t : ℕ) → t < k → due_at some t ≡ due_at other t
  due-same t before =
      rising-unique (due_at some t) (due_at other t)
      (KeysRise-in_key_order (filter (λ x. eqb x.time t) some) (names-at t some left))
      (KeysRise-in_key_order (filter (λ x. eqb x.time t) other) (names-at t other right))
      (λ p. older t before some p ∙ same (λ x. p x && eqb x.time t) ∙ sym (older t before other p))

  ticks-one : (n t : ℕ) → t + n ≤ k → ticks some t n ≡ ticks other t n
  unfolding ticks
  ticks-one zero t fits = refl
  ticks-one (suc n) t fits = rw (due-same t (omega arith), ticks-one n (t + 1) (omega arith)) refl

  pub ordered-one : ordered some 0 k ≡ ordered other 0 k
  ordered-one = ticks-one (k - 0) 0 (omega arith)

-- ---- copies in time order

-- what holds of no items and of each run holds at each place
all-or : (P : List Item → Type 0) (runs : List (List Item)) (c : ℕ) → P [] → AllByRecursion P runs → P (get_or runs c [])
all-or P [] c none here = none
all-or P (r ∷ rs) zero none here = here.0
all-or P (r ∷ rs) (suc c) none here = all-or P rs c none here.1

none-run : (accepted : List Command) → [] ≡ ordered accepted 0 (beats [])
unfolding beats ticks
none-run accepted = refl

-- at one tick
put-one : (accepted : List Command) (b : ℕ) → ordered accepted 0 b ≡ ordered accepted 0 (beats (ordered accepted 0 b))
put-one accepted b = (let n : beats (ordered accepted 0 b) ≡ b = beats-ordered accepted 0 b ∙ omega arith in ap (ordered accepted 0) (sym n))

put-all : (accepted : List Command) (b : ℕ) (runs : List (List Item)) → AllByRecursion (λ run. run ≡ ordered accepted 0 (beats run)) (map (λ (run : List Item). ordered accepted 0 b) runs)
put-all accepted b [] = tt
put-all accepted b (r ∷ rs) = (put-one accepted b, put-all accepted b rs)

pub based-ordered : {W : Type 0} (b : ℕ) (s : MirrorState W) → AreInTimeOrder (at_base b s)
based-ordered b s = put-all s.accepted b s.runs

put-chained : (front : List Item) (runs : List (List Item)) → IsChained (map (λ (run : List Item). front) runs)
unfolding IsChained IsAhead
put-chained front [] = tt
put-chained front (r ∷ []) = (tt, tt)
put-chained front (r ∷ q ∷ rs) = (([], sym (append-nil front)), put-chained front (q ∷ rs))

put-each : (P : List Item → Type 0) (front : List Item) (runs : List (List Item)) → P front → AllByRecursion P (map (λ (run : List Item). front) runs)
put-each P front [] here = tt
put-each P front (r ∷ rs) here = (here, put-each P front rs here)

none-older : (test : Command → Bool) (xs : List Command) → 0 ≡ times (λ x. test x && ltb x.time 0) xs
unfolding times
none-older test [] = refl
none-older test (x ∷ xs) = (let none : (test x && ltb x.time 0) ≡ false = grind (arith, nat_tests) in rw none (none-older test xs ∙ omega arith))

none-complete : (accepted : List Command) → IsComplete accepted []
unfolding IsComplete times commands_of beats
none-complete accepted = λ test. none-older test accepted

put-last : (accepted : List Command) (b : ℕ) (runs : List (List Item))
    → let put = map (λ (run : List Item). ordered accepted 0 b) runs in last_of [] put ≡ ordered accepted 0 (last_clock put)
unfolding last_of beats ticks
put-last accepted b [] = refl
put-last accepted b (r ∷ rs) =
    let same : last_of (ordered accepted 0 b) (map (λ (run : List Item). ordered accepted 0 b) rs) ≡ ordered accepted 0 b = last-map (λ (run : List Item). ordered accepted 0 b) r rs in
    same ∙ put-one accepted b ∙ ap (λ (run : List Item). ordered accepted 0 (beats run)) (sym same)

pub based-trailing : {W : Type 0} (b : ℕ) (s : MirrorState W) → IsTrailing s.accepted (at_base b s).runs
unfolding beats IsNeverEarly
based-trailing b s =
    let q = ordered s.accepted 0 b in
    let n : beats q ≡ b = beats-ordered s.accepted 0 b ∙ omega arith in
    record {
      chained = put-chained q s.runs;
      complete =
          put-each (IsComplete s.accepted) q s.runs
          (subst (λ (j : ℕ). IsComplete s.accepted (ordered s.accepted 0 j)) n (complete-rebuilt s.accepted q [] (none-complete s.accepted) (omega arith)));
      last_ordered = put-last s.accepted b s.runs;
      never_early =
          put-each (IsNeverEarly zero) q s.runs
          (subst (λ (j : ℕ). IsNeverEarly zero (ordered s.accepted 0 j)) n (never_early-rebuilt s.accepted q [] tt (omega arith)));
    }

-- a step of a copy
ticked-one : (accepted : List Command) (run : List Item) → run ≡ ordered accepted 0 (beats run) → with_tick accepted run ≡ ordered accepted 0 (beats run + 1)
unfolding with_tick
ticked-one accepted run here =
    ap (λ (q : List Item). q ++ tick_of accepted (beats run)) here ∙ sym (ordered-more accepted 0 (beats run) (omega arith))

module _ {W : Type 0} (s : MirrorState W) (trailing : IsTrailing s.accepted s.runs) (here : AreInTimeOrder s) where
  at-copy : (c : ℕ) → get_or s.runs c [] ≡ ordered s.accepted 0 (copy_clock s.runs c)
  at-copy c = all-or (λ run. run ≡ ordered s.accepted 0 (beats run)) s.runs c (none-run s.accepted) here

  new-ordered : (c : ℕ) → with_tick s.accepted (get_or s.runs c []) ≡ ordered s.accepted 0 (beats (with_tick s.accepted (get_or s.runs c [])))
  new-ordered c =
      ticked-one s.accepted (get_or s.runs c []) (at-copy c) ∙ ap (ordered s.accepted 0) (sym (beats-with_tick s.accepted (get_or s.runs c [])))

  front-ahead : (c : ℕ) → copy_clock s.runs (suc c) < copy_clock s.runs c → begins_with (get_or s.runs c []) (with_tick s.accepted (get_or s.runs (suc c) [])) ≡ true
  front-ahead c room =
      let k = copy_clock s.runs (suc c) in
      (begins_with-Decides (get_or s.runs c []) (with_tick s.accepted (get_or s.runs (suc c) []))).1 (
        ordered s.accepted (k + 1) (copy_clock s.runs c),
        at-copy c ∙ ordered-join s.accepted 0 (k + 1) (copy_clock s.runs c) (omega arith) (omega arith)
            ∙ ap (λ (q : List Item). q ++ ordered s.accepted (k + 1) (copy_clock s.runs c)) (sym (ticked-one s.accepted (get_or s.runs (suc c) []) (at-copy (suc c)))),
      )

  unrepaired : (c : ℕ) → is_idle s c ≡ false → settle s.accepted (proposed_by_step s.accepted s.runs c) ≡ proposed_by_step s.accepted s.runs c
  unfolding IsBehindAhead
  unrepaired zero e = (step_first s.accepted s.runs trailing.chained).0
  unrepaired (suc c) e = (step_front s.accepted s.runs c trailing.chained (front-ahead c (below_limit s (suc c) e).0)).0

  ran-ordered : (c : ℕ) → is_idle s c ≡ false → AreInTimeOrder (ran s c)
  ran-ordered c e =
      subst (λ (runs : List (List Item)). AllByRecursion (λ run. run ≡ ordered s.accepted 0 (beats run)) runs) (sym (unrepaired c e))
      (all-put (λ run. run ≡ ordered s.accepted 0 (beats run)) s.runs c (with_tick s.accepted (get_or s.runs c [])) here (new-ordered c))

  -- a command that is late at no copy
  all-before :
      (x : Command) (runs : List (List Item)) → list_any (is_late_at x) runs ≡ false → AllByRecursion (λ run. run ≡ ordered s.accepted 0 (beats run)) runs
      → AllByRecursion (λ run. run ≡ ordered (s.accepted ++ x ∷ []) 0 (beats run)) runs
  all-before x [] none each = tt
  all-before x (r ∷ rs) none each =
      elim (is_late_at x r) as (λ v. is_late_at x r ≡ v → (v || list_any (is_late_at x) rs) ≡ false
      → (r ≡ ordered (s.accepted ++ x ∷ []) 0 (beats r)) × AllByRecursion (λ run. run ≡ ordered (s.accepted ++ x ∷ []) 0 (beats run)) rs) [
        | true ↦ λ e n. absurd cc
        | false ↦ λ e n.
            let before : 0 + (beats r - 0) ≤ x.time = grind (arith, nat_tests) in
            (each.0 ∙ sym (ticks-later s.accepted x 0 (beats r - 0) before), all-before x rs n each.1)
      ] refl none

  not_true : (b : Bool) → not b ≡ true → b ≡ false
  not_true true e = absurd (let k = e in cc)
  not_true false e = refl

  taken-ordered : (x : Command) → is_late s x ≡ false → is_timely s x ≡ true → AreInTimeOrder (taken s x)
  taken-ordered x due timely =
      let none : list_any (is_late_at x) s.runs ≡ false = not_true (list_any (is_late_at x) s.runs) (rw due at timely) in
      subst (λ (runs : List (List Item)). AllByRecursion (λ run. run ≡ ordered (s.accepted ++ x ∷ []) 0 (beats run)) runs)
      (sym (arrival_early s.accepted x s.runs trailing.chained none).0) (all-before x s.runs none here)

  pub event-ordered : (e : Event) → brings_none_late s e ≡ true → AreInTimeOrder (next s e)
  event-ordered Tick timely = tick-cases s (λ t r. AreInTimeOrder t) (λ e. here) (λ e. here)
  event-ordered (Arrive x) timely =
      arrive-cases s x (λ t r. AreInTimeOrder t) (λ e. here) (λ e l. here) (λ e l. taken-ordered x l (rw e at timely))
  event-ordered (Step c) timely = step-cases s c (λ t r. AreInTimeOrder t) (λ e. here) (λ e. ran-ordered c e)
  event-ordered (Restagger p) timely = restagger-cases s p (λ t r. AreInTimeOrder t) here

  pub arrival-ordered : (b : ℕ) (x : Command) → is_timely s x ≡ true → AreInTimeOrder (arrive_from b s x)
  arrival-ordered b x timely =
      elim (is_repeat_from b s x) as (λ v. is_repeat_from b s x ≡ v → AreInTimeOrder (arrive_from b s x)) [
        | true ↦ λ e. subst (λ (t : MirrorState W). AreInTimeOrder t) (sym (from_repeat b s x e).0) here
        | false ↦ λ e.
            elim (is_late s x) as (λ v. is_late s x ≡ v → AreInTimeOrder (arrive_from b s x)) [
              | true ↦ λ l. subst (λ (t : MirrorState W). AreInTimeOrder t) (sym (from_late b s x e l).0) here
              | false ↦ λ l. subst (λ (t : MirrorState W). AreInTimeOrder t) (sym (from_taken b s x e l).0) (taken-ordered x l timely)
            ] refl
      ] refl

-- ---- last copies at one tick

module _
    {W : Type 0} (s t : MirrorState W) (left : IsTrailing s.accepted s.runs) (right : IsTrailing t.accepted t.runs)
    (some : KeysDiffer s.accepted) (other : KeysDiffer t.accepted) where
  pub last-runs-one :
      last_clock s.runs ≡ last_clock t.runs
      → ((test : Command → Bool) → times (λ x. test x && ltb x.time (last_clock s.runs)) s.accepted ≡ times (λ x. test x && ltb x.time (last_clock s.runs)) t.accepted)
      → last_of [] s.runs ≡ last_of [] t.runs
  last-runs-one at same =
      left.last_ordered ∙ ordered-one (last_clock s.runs) s.accepted t.accepted some other same ∙ ap (ordered t.accepted 0) at ∙ sym right.last_ordered

  pub last-worlds-one :
      (rules : Rules W) → s.opening ≡ t.opening → last_clock s.runs ≡ last_clock t.runs
      → ((test : Command → Bool) → times (λ x. test x && ltb x.time (last_clock s.runs)) s.accepted ≡ times (λ x. test x && ltb x.time (last_clock s.runs)) t.accepted)
      → world_of rules s.opening (last_of [] s.runs) ≡ world_of rules t.opening (last_of [] t.runs)
  last-worlds-one rules opening at same =
      ap (λ (o : W). world_of rules o (last_of [] s.runs)) opening ∙ ap (world_of rules t.opening) (last-runs-one at same)

-- ---- what these say

pub ordered-world :
    {W : Type 0} (rules : Rules W) (s : MirrorState W) → AreInTimeOrder s → (c : ℕ) → c < length s.runs
    → world_of rules s.opening (get_or s.runs c []) ≡ time_ordered rules s.opening s.accepted (copy_clock s.runs c)
ordered-world rules s here c there =
    ap (world_of rules s.opening) (all-or (λ run. run ≡ ordered s.accepted 0 (beats run)) s.runs c (none-run s.accepted) here)

pub others-timely : {W : Type 0} (s : MirrorState W) (e : Event) → is_arrival e ≡ false → brings_none_late s e ≡ true
others-timely s Tick other = refl
others-timely s (Arrive x) other = absurd (let k = other in cc)
others-timely s (Step c) other = refl
others-timely s (Restagger p) other = refl

pub early-timely : {W : Type 0} (s : MirrorState W) (x : Command) → list_any (is_late_at x) s.runs ≡ false → brings_none_late s (Arrive x) ≡ true
early-timely s x early =
    rw early (elim (is_repeat s x) as (λ v. (v || (is_late s x || true)) ≡ true) [
      | true ↦ refl
      | false ↦ elim (is_late s x) as (λ v. (v || true) ≡ true) [ true ↦ refl | false ↦ refl ]
    ])
