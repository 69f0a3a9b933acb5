-- Draining ends within its bound, and leaves every copy at the ordered part of what was accepted.
use Rattle.std.proofs.Common.{◌≡◌, ℕ, zero, suc, ◌+◌, ◌-◌, ◌≤◌, ◌<◌, true, false, cond, ◌&&◌, ltb, List, [], ◌∷◌, ◌++◌, length, get_or, refl, ap, sym, ◌∙◌}
use Rattle.std.proofs.Common.{◌↔◌, subst, ⊎_elim, append-nil, eq-eqb, arith}
use Rattle.std.specs.List.{AllByRecursion, list_all}
use Rattle.std.proofs.lemmas.Bool.{and_parts, and_from, eqb-true, leb-true, cases_eq}
use Rattle.game_trait.specs.declared.command.Command.{Command}
use Rattle.game_trait.specs.declared.command.Item.{Item}
use Rattle.game_trait.specs.declared.command.Item.TheVariants.{Cmd, Beat}
use Rattle.game_trait.specs.declared.event.Event.{Event}
use Rattle.game_trait.specs.declared.event.Event.TheVariants.{Tick, Step}
use Rattle.game_trait.specs.Run.{beats, commands_of, world_of, IsPrefix}
use Rattle.game_trait.specs.Ordered.{ordered, time_ordered}
use Rattle.game_trait.specs.Game.{Rules}
use Rattle.game_trait.specs.Count.{times}
use Rattle.game_trait.specs.Events.{is_restagger}
use Rattle.game_trait.proofs.Runs.{beats-append, commands_of-append}
use Rattle.game_trait.proofs.Counts.{times-append}
use Rattle.game_trait.proofs.KeyOrder.{all-weaker}
use Rattle.std.specs.Prelude.{◌==◌}
use Rattle.sync_model.specs.Lists.{last_of}
use Rattle.sync_model.specs.Schedule.{DelaysRise, limit_at, clock_end}
use Rattle.sync_model.specs.State.{MirrorState, copy_clock, step_limit, delays_of, schedule_of}
use Rattle.sync_model.specs.Change.{next, is_idle, after}
use Rattle.sync_model.specs.Staggered.{IsAhead, IsChained, IsComplete, IsStaggered}
use Rattle.sync_model.specs.Turns.{steps_from, turn_events, turns_of, turn, SameArrivals, IsDrained, is_drained, drain_within, drain_bound, drain}
use Rattle.sync_model.proofs.Staggered.{staggered-tick, staggered-step}
use Rattle.sync_model.proofs.Cases.{SameParts, tick-cases, step-cases, next-fixed, next-plan, after-fixed, copies_of}
use Rattle.sync_model.proofs.Clocks.{ran-moves, clocks-never_fall, clock-nearer, clock-tick_up, clock-step}
use Rattle.sync_model.proofs.Along.{steps-keep, turn-keeps}

-- a run without a beat and without a command is empty
nothing-left : (rest : List Item) → beats rest ≡ 0 → times (λ _. true) (commands_of rest) ≡ 0 → rest ≡ []
unfolding beats commands_of times
nothing-left [] no_beat no_command = refl
nothing-left (Cmd x ∷ rest) no_beat no_command = absurd (omega arith)
nothing-left (Beat ∷ rest) no_beat no_command = absurd (omega arith)

-- equal clocks mean equal runs
pub equal_clocks :
    (accepted : List Command) (front whole : List Item) → IsComplete accepted front → IsComplete accepted whole
    → IsPrefix front whole → beats front ≡ beats whole → whole ≡ front
unfolding IsComplete
equal_clocks accepted front whole less more prefix same =
    let rest = prefix.0 in
    let clock = ap beats prefix.1 ∙ beats-append front rest in
    let count = ap (λ (run : List Item). times (λ (x : Command). true) (commands_of run)) prefix.1
    ∙ ap (times (λ (x : Command). true)) (commands_of-append front rest)
    ∙ times-append (λ (x : Command). true) (commands_of front) (commands_of rest) in
    let left = less (λ x. true) in
    let right = more (λ x. true) ∙ ap (λ (n : ℕ). times (λ (x : Command). true && ltb x.time n) accepted) (sym same) in
    prefix.1 ∙ ap (λ (run : List Item). front ++ run) (nothing-left rest (omega arith) (omega arith)) ∙ append-nil front

-- where all clocks are equal, each run is the last
all-last :
    (accepted : List Command) (n : ℕ) (target : List Item) (runs : List (List Item))
    → IsChained runs → AllByRecursion (IsComplete accepted) runs → AllByRecursion (λ run. beats run ≡ n) runs → last_of [] runs ≡ target
    → AllByRecursion (λ run. run ≡ target) runs
unfolding IsChained IsAhead last_of
all-last accepted n target [] chained complete clocks last = tt
all-last accepted n target (run ∷ []) chained complete clocks last = (last, tt)
all-last accepted n target (run ∷ r ∷ rs) chained complete clocks last =
    let behind = all-last accepted n target (r ∷ rs) chained.1 complete.1 clocks.1 last in
    (equal_clocks accepted r run complete.1.0 complete.0 chained.0 (clocks.1.0 ∙ sym clocks.0) ∙ behind.0, behind)

last-clock : (n : ℕ) (run : List Item) (runs : List (List Item)) → beats run ≡ n → AllByRecursion (λ r. beats r ≡ n) runs → beats (last_of run runs) ≡ n
unfolding last_of
last-clock n run [] here h = here
last-clock n run (r ∷ rs) here h = last-clock n r rs h.0 h.1

-- the same of a list of runs
all-ordered :
    (accepted : List Command) (n : ℕ) (runs : List (List Item)) → IsChained runs → AllByRecursion (IsComplete accepted) runs
    → AllByRecursion (λ run. beats run ≡ n) runs → last_of [] runs ≡ ordered accepted 0 (beats (last_of [] runs))
    → AllByRecursion (λ run. run ≡ ordered accepted 0 n) runs
unfolding last_of
all-ordered accepted n [] chained complete clocks last = tt
all-ordered accepted n (run ∷ behind) chained complete clocks last =
    all-last accepted n (ordered accepted 0 n) (run ∷ behind) chained complete clocks
    (last ∙ ap (ordered accepted 0) (last-clock n run behind clocks.0 clocks.1))

-- a staggered mirror that is drained has each copy at the ordered part of what was accepted
pub drained_in_order :
    {W : Type 0} (s : MirrorState W) → IsStaggered s → IsDrained s
    → AllByRecursion (λ run. run ≡ ordered s.accepted 0 s.length) s.runs
drained_in_order s here drained = all-ordered s.accepted s.length s.runs here.trailing.chained here.trailing.complete drained here.trailing.last_ordered

-- no delay is longer than the last
last-above : (n d : ℕ) (ds : List ℕ) → n ≤ d → AllByRecursion (λ e. n < e) ds → n ≤ last_of d ds
unfolding last_of
last-above n d [] here h = here
last-above n d (e ∷ es) here h = last-above n e es (omega arith) h.1

pub delay-longest : (ds : List ℕ) (c : ℕ) → DelaysRise ds → get_or ds c 0 ≤ last_of 0 ds
unfolding last_of DelaysRise
delay-longest [] c rise = omega arith
delay-longest (d ∷ ds) zero rise = last-above d d ds (omega arith) rise.0
delay-longest (d ∷ []) (suc c) rise = omega arith
delay-longest (d ∷ e ∷ es) (suc c) rise = delay-longest (e ∷ es) c rise.1

-- a mirror whose clock is at its end, with these fixed parts
record AtEnd {W : Type 0} (length : ℕ) (delays : List ℕ) (copies : ℕ) (s : MirrorState W) : Type 0 where
  pub length_is : s.length ≡ length
  pub delays_are : delays_of s ≡ delays
  pub copies_are : copies_of s ≡ copies
  pub clock : length + last_of 0 delays ≤ s.clock
  pub staggered : IsStaggered s

-- no tick and no step changes the delays in force
pub delays-next : {W : Type 0} (s : MirrorState W) (e : Event) → is_restagger e ≡ false → delays_of (next s e) ≡ delays_of s
delays-next s e not =
    let same = (next-fixed s e).plans in
    let plan = next-plan s e not in
    λ i. get_or (same i) (plan i) []

pub turn-delays : {W : Type 0} (s : MirrorState W) → delays_of (turn s) ≡ delays_of s
turn-delays s = turn-keeps (λ t. delays_of t ≡ delays_of s) (λ t h. delays-next t Tick refl ∙ h) (λ t c h. delays-next t (Step c) refl ∙ h) s refl

at_end-step : {W : Type 0} (l : ℕ) (ds : List ℕ) (n : ℕ) (s : MirrorState W) (c : ℕ) → AtEnd l ds n s → AtEnd l ds n (next s (Step c))
at_end-step l ds n s c h =
    let same = next-fixed s (Step c) in
    record {
      length_is = same.length ∙ h.length_is;
      delays_are = delays-next s (Step c) refl ∙ h.delays_are;
      copies_are = same.copies ∙ h.copies_are;
      clock = (let k = clock-step s c in let t = h.clock in omega arith);
      staggered = staggered-step s c h.staggered;
    }

-- an idle copy is at the match's end or level with the copy ahead
idle-done :
    {W : Type 0} (l : ℕ) (ds : List ℕ) (n : ℕ) (s : MirrorState W) (c j : ℕ) → AtEnd l ds n s → DelaysRise ds → is_idle s c ≡ true
    → ((i : ℕ) → i < c → l ≤ copy_clock s.runs i + j) → l ≤ copy_clock s.runs c + j
unfolding step_limit limit_at
idle-done l ds n s zero j h rise idle ahead =
    let k = leb-true (step_limit s zero) (copy_clock s.runs zero) idle in
    let d : get_or (delays_of s) zero 0 ≤ last_of 0 ds = subst (λ (es : List ℕ). get_or es zero 0 ≤ last_of 0 ds) (sym h.delays_are) (delay-longest ds zero rise) in
    let t = h.clock in
    let e = h.length_is in
    omega arith
idle-done l ds n s (suc c) j h rise idle ahead =
    let k = leb-true (step_limit s (suc c)) (copy_clock s.runs (suc c)) idle in
    let d : get_or (delays_of s) (suc c) 0 ≤ last_of 0 ds = subst (λ (es : List ℕ). get_or es (suc c) 0 ≤ last_of 0 ds) (sym h.delays_are) (delay-longest ds (suc c) rise) in
    let t = h.clock in
    let e = h.length_is in
    let a = ahead c (omega arith) in
    omega arith

-- after its step at the end a copy is one tick nearer to the match's end
step-nearer :
    {W : Type 0} (l : ℕ) (ds : List ℕ) (n : ℕ) (s : MirrorState W) (c j : ℕ) → AtEnd l ds n s → DelaysRise ds → c < n
    → ((i : ℕ) → i < c → l ≤ copy_clock s.runs i + j) → l ≤ copy_clock s.runs c + suc j → l ≤ copy_clock (next s (Step c)).runs c + j
step-nearer l ds n s c j h rise there ahead here =
    step-cases s c (λ t r. l ≤ copy_clock t.runs c + j)
    (λ e. idle-done l ds n s c j h rise e ahead)
    (λ e. (let k = ran-moves s c h.staggered e (let m = h.copies_are in omega arith) in omega arith))

-- the steps of a turn at the end bring each copy one tick nearer
steps-nearer :
    {W : Type 0} (l : ℕ) (ds : List ℕ) (n j k c : ℕ) (s : MirrorState W) → AtEnd l ds n s → DelaysRise ds → c + k ≡ n
    → ((i : ℕ) → i < c → l ≤ copy_clock s.runs i + j) → ((i : ℕ) → i < n → l ≤ copy_clock s.runs i + suc j)
    → (i : ℕ) → i < n → l ≤ copy_clock (after s (steps_from c k)).runs i + j
unfolding after steps_from
steps-nearer l ds n j zero c s h rise all near far i there = near i (omega arith)
steps-nearer l ds n j (suc k) c s h rise all near far i there =
    steps-nearer l ds n j k (c + 1) (next s (Step c)) (at_end-step l ds n s c h) rise (omega arith)
    (λ i below.
    ⊎_elim
    (λ (e : i ≡ c). subst (λ (m : ℕ). l ≤ copy_clock (next s (Step c)).runs m + j) (sym e) (step-nearer l ds n s c j h rise (omega arith) near (far c (omega arith))))
    (λ (e : i ≡ c → ⊥). (let a = near i (grind arith) in let b = clocks-never_fall s (Step c) i h.staggered in omega arith))
    (cases_eq i c))
    (λ i below. (let a = far i below in let b = clocks-never_fall s (Step c) i h.staggered in omega arith))
    i there

-- no turn turns a copy's clock back
turn-never_falls : {W : Type 0} (s : MirrorState W) (i : ℕ) → IsStaggered s → copy_clock s.runs i ≤ copy_clock (turn s).runs i
turn-never_falls s i here =
    (turn-keeps (λ t. record { staggered : IsStaggered t; up : copy_clock s.runs i ≤ copy_clock t.runs i })
    (λ t h. record { staggered = staggered-tick t h.staggered; up = (let a = h.up in let b = clocks-never_fall t Tick i h.staggered in omega arith) })
    (λ t c h. record { staggered = staggered-step t c h.staggered; up = (let a = h.up in let b = clocks-never_fall t (Step c) i h.staggered in omega arith) })
    s (record { staggered = here; up = omega arith })).up

-- what draining goes by: at most m ticks to the clock's end and j ticks to the match's, for each copy
record IsNear {W : Type 0} (l : ℕ) (ds : List ℕ) (n m j : ℕ) (s : MirrorState W) : Type 0 where
  pub length_is : s.length ≡ l
  pub delays_are : delays_of s ≡ ds
  pub copies_are : copies_of s ≡ n
  pub clock : l + last_of 0 ds ≤ s.clock + m
  pub staggered : IsStaggered s
  pub near : (i : ℕ) → i < n → l ≤ copy_clock s.runs i + j

pub staggered-turn : {W : Type 0} (s : MirrorState W) → IsStaggered s → IsStaggered (turn s)
staggered-turn s here = turn-keeps IsStaggered (λ t h. staggered-tick t h) (λ t c h. staggered-step t c h) s here

turn-clock : {W : Type 0} (s : MirrorState W) → (turn s).clock ≡ (next s Tick).clock
unfolding after
turn-clock s = steps-keep (λ t. t.clock ≡ (next s Tick).clock) (λ t c h. clock-step t c ∙ h) (length s.runs) 0 (next s Tick) refl

-- a turn before the clock's end brings the end one tick nearer
turn-ticks : {W : Type 0} (l : ℕ) (ds : List ℕ) (n m j : ℕ) (s : MirrorState W) → IsNear l ds n (suc m) j s → IsNear l ds n m j (turn s)
turn-ticks l ds n m j s h =
    let same = after-fixed (turn_events (length s.runs)) s in
    let e = h.length_is in
    let f = ap (last_of 0) h.delays_are in
    let far = h.clock in
    let near = clock-nearer s m (omega arith) in
    record {
      length_is = same.length ∙ h.length_is;
      delays_are = turn-delays s ∙ h.delays_are;
      copies_are = same.copies ∙ h.copies_are;
      clock = (let a = turn-clock s in omega arith);
      staggered = staggered-turn s h.staggered;
      near = λ i there. (let a = h.near i there in let b = turn-never_falls s i h.staggered in omega arith);
    }

nearer :
    {W : Type 0} (l : ℕ) (ds : List ℕ) (n j : ℕ) (s : MirrorState W) → DelaysRise ds → IsNear l ds n 0 (suc j) s
    → (i : ℕ) → i < n → l ≤ copy_clock (turn s).runs i + j
unfolding after
nearer l ds n j s rise h =
    let same = next-fixed s Tick in
    let up = clock-tick_up s in
    steps-nearer l ds n j (length s.runs) 0 (next s Tick)
    (record {
      length_is = same.length ∙ h.length_is;
      delays_are = delays-next s Tick refl ∙ h.delays_are;
      copies_are = same.copies ∙ h.copies_are;
      clock = (let b = h.clock in omega arith);
      staggered = staggered-tick s h.staggered;
    })
    rise (let e = h.copies_are in omega arith) (λ i below. absurd (omega arith))
    (λ i below. (let a = h.near i below in let b = clocks-never_fall s Tick i h.staggered in omega arith))

-- a turn at the clock's end brings each copy one tick nearer
turn-steps : {W : Type 0} (l : ℕ) (ds : List ℕ) (n j : ℕ) (s : MirrorState W) → DelaysRise ds → IsNear l ds n 0 (suc j) s → IsNear l ds n 0 j (turn s)
turn-steps l ds n j s rise h =
    let same = after-fixed (turn_events (length s.runs)) s in
    let up = clock-tick_up s in
    record {
      length_is = same.length ∙ h.length_is;
      delays_are = turn-delays s ∙ h.delays_are;
      copies_are = same.copies ∙ h.copies_are;
      clock = (let a = turn-clock s in let b = h.clock in omega arith);
      staggered = staggered-turn s h.staggered;
      near = nearer l ds n j s rise h;
    }

-- the test of a drained mirror
all-at_end : (n : ℕ) (runs : List (List Item)) → list_all (λ run. beats run == n) runs ≡ true → AllByRecursion (λ run. beats run ≡ n) runs
all-at_end n [] e = tt
all-at_end n (run ∷ runs) e =
    let parts = and_parts (beats run == n) (list_all (λ r. beats r == n) runs) e in
    (eqb-true (beats run) n parts.0, all-at_end n runs parts.1)

all-at_end-back : (n : ℕ) (runs : List (List Item)) → AllByRecursion (λ run. beats run ≡ n) runs → list_all (λ run. beats run == n) runs ≡ true
all-at_end-back n [] h = refl
all-at_end-back n (run ∷ runs) h = and_from (beats run == n) (list_all (λ r. beats r == n) runs) (eq-eqb (beats run) n h.0) (all-at_end-back n runs h.1)

-- drained as a test and as a fact are one
pub drained_is_tested : {W : Type 0} (s : MirrorState W) → (is_drained s ≡ true) ↔ IsDrained s
drained_is_tested s = (all-at_end s.length s.runs, all-at_end-back s.length s.runs)

pub is_drained-true : {W : Type 0} (s : MirrorState W) → is_drained s ≡ true → IsDrained s
is_drained-true s e = all-at_end s.length s.runs e

all-from_index : {X : Type 0} (P : X → Type 0) (d : X) (xs : List X) → ((i : ℕ) → i < length xs → P (get_or xs i d)) → AllByRecursion P xs
all-from_index P d [] h = tt
all-from_index P d (x ∷ xs) h = (h zero (omega arith), all-from_index P d xs (λ i below. h (suc i) (omega arith)))

-- clocks that are at most the match's length, and not below it, are at it
all-met :
    (n l : ℕ) (runs : List (List Item)) → n ≡ l → AllByRecursion (λ run. beats run ≤ n) runs → AllByRecursion (λ run. l ≤ beats run) runs
    → AllByRecursion (λ run. beats run ≡ n) runs
all-met n l [] e range h = tt
all-met n l (run ∷ runs) e range h = (omega arith, all-met n l runs e range.1 h.1)

near-drained : {W : Type 0} (l : ℕ) (ds : List ℕ) (n : ℕ) (s : MirrorState W) → IsNear l ds n 0 0 s → IsDrained s
near-drained l ds n s h =
    all-met s.length l s.runs h.length_is h.staggered.in_bounds.within_match
    (all-from_index (λ run. l ≤ beats run) [] s.runs (λ i below. (let a = h.near i (let e = h.copies_are in omega arith) in omega arith)))

-- draining ends
drain_within-ends :
    {W : Type 0} (l : ℕ) (ds : List ℕ) (n : ℕ) → DelaysRise ds
    → (k m j : ℕ) (s : MirrorState W) → k ≡ m + j → IsNear l ds n m j s → IsDrained (drain_within k s)
unfolding drain_within
drain_within-ends l ds n rise zero m j s sum h = near-drained l ds n s
    (record {
      length_is = h.length_is;
      delays_are = h.delays_are;
      copies_are = h.copies_are;
      clock = (let c = h.clock in omega arith);
      staggered = h.staggered;
      near = λ i there. (let a = h.near i there in omega arith);
    })
drain_within-ends l ds n rise (suc k) zero zero s sum h = absurd (omega arith)
drain_within-ends l ds n rise (suc k) zero (suc j) s sum h =
    elim (is_drained s) as (λ v. is_drained s ≡ v → IsDrained (cond v s (drain_within k (turn s))))
    [ true ↦ λ e. is_drained-true s e | false ↦ λ e. drain_within-ends l ds n rise k zero j (turn s) (omega arith) (turn-steps l ds n j s rise h) ]
    refl
drain_within-ends l ds n rise (suc k) (suc m) j s sum h =
    elim (is_drained s) as (λ v. is_drained s ≡ v → IsDrained (cond v s (drain_within k (turn s))))
    [ true ↦ λ e. is_drained-true s e | false ↦ λ e. drain_within-ends l ds n rise k m j (turn s) (omega arith) (turn-ticks l ds n m j s h) ]
    refl

pub draining_ends : {W : Type 0} (s : MirrorState W) → DelaysRise (delays_of s) → IsStaggered s → IsDrained (drain s)
draining_ends s rise here =
    drain_within-ends s.length (delays_of s) (copies_of s) rise (drain_bound s) (clock_end (schedule_of s) - s.clock) s.length s refl
    (record { length_is = refl; delays_are = refl; copies_are = refl; clock = omega arith; staggered = here; near = λ i there. omega arith })

-- what ticks and steps keep, draining keeps
drain_within-keeps :
    {W : Type 0} (Q : MirrorState W → Type 0) → ((s : MirrorState W) → Q s → Q (next s Tick))
    → ((s : MirrorState W) (c : ℕ) → Q s → Q (next s (Step c)))
    → (k : ℕ) (s : MirrorState W) → Q s → Q (drain_within k s)
unfolding drain_within
drain_within-keeps Q tick step zero s here = here
drain_within-keeps Q tick step (suc k) s here =
    elim (is_drained s) as (λ v. Q (cond v s (drain_within k (turn s))))
    [ true ↦ here | false ↦ drain_within-keeps Q tick step k (turn s) (turn-keeps Q tick step s here) ]

pub staggered-drain : {W : Type 0} (s : MirrorState W) → IsStaggered s → IsStaggered (drain s)
staggered-drain s here = drain_within-keeps IsStaggered (λ t h. staggered-tick t h) (λ t c h. staggered-step t c h) (drain_bound s) s here

-- draining accepts and turns away nothing, spends no room, and changes no plan
pub draining_delivers_nothing : {W : Type 0} (s : MirrorState W) → SameArrivals s (drain s)
draining_delivers_nothing s =
    drain_within-keeps (SameArrivals s)
    (λ t h. tick-cases t (λ u r. SameArrivals s u) (λ e. h) (λ e. record { accepted = h.accepted; turned = h.turned; plan = h.plan; spare = h.spare; plan_spare = h.plan_spare }))
    (λ t c h. step-cases t c (λ u r. SameArrivals s u) (λ e. h) (λ e. record { accepted = h.accepted; turned = h.turned; plan = h.plan; spare = h.spare; plan_spare = h.plan_spare }))
    (drain_bound s) s (record { accepted = refl; turned = refl; plan = refl; spare = refl; plan_spare = refl })

-- nor does it change the fixed parts
pub drain-fixed : {W : Type 0} (s : MirrorState W) → SameParts s (drain s)
drain-fixed {W} s =
    drain_within-keeps (SameParts s) (λ t h. followed t Tick h) (λ t c h. followed t (Step c) h)
    (drain_bound s) s (record { opening = refl; length = refl; plans = refl; copies = refl })
  where
    followed : (t : MirrorState W) (e : Event) → SameParts s t → SameParts s (next t e)
    followed t e h =
        let one = next-fixed t e in
        record { opening = one.opening ∙ h.opening; length = one.length ∙ h.length; plans = one.plans ∙ h.plans; copies = one.copies ∙ h.copies }

-- after draining each run is the ordered part of what was accepted
pub drain-ordered :
    {W : Type 0} (s : MirrorState W) → DelaysRise (delays_of s) → IsStaggered s
    → AllByRecursion (λ run. run ≡ ordered s.accepted 0 s.length) (drain s).runs
drain-ordered s rise here =
    let same = draining_delivers_nothing s in
    let each = drained_in_order (drain s) (staggered-drain s here) (draining_ends s rise here) in
    all-weaker (λ run. run ≡ ordered (drain s).accepted 0 (drain s).length) (λ run. run ≡ ordered s.accepted 0 s.length) (drain s).runs
    (λ run e. e ∙ ap (λ (a : List Command). ordered a 0 (drain s).length) same.accepted ∙ ap (ordered s.accepted 0) (drain-fixed s).length) each

-- draining is some turns, no more than its bound
after-joined : {W : Type 0} (es fs : List Event) (s : MirrorState W) → after s (es ++ fs) ≡ after (after s es) fs
unfolding after
after-joined [] fs s = refl
after-joined (e ∷ es) fs s = after-joined es fs (next s e)

drain_within-turns :
    {W : Type 0} (k : ℕ) (s : MirrorState W) → (n : ℕ) × (n ≤ k) × (drain_within k s ≡ after s (turns_of (length s.runs) n))
unfolding drain_within after turns_of
drain_within-turns zero s = (0, omega arith, refl)
drain_within-turns {W} (suc k) s =
    elim (is_drained s) as (λ v. (n : ℕ) × (n ≤ suc k) × (cond v s (drain_within k (turn s)) ≡ after s (turns_of (length s.runs) n))) [
      | true ↦ (0, omega arith, refl)
      | false ↦
          let more = drain_within-turns k (turn s) in
          let same = (after-fixed (turn_events (length s.runs)) s).copies in (
            suc more.0,
            (let most = more.1 in omega arith),
            more.2
                ∙ ap (λ (c : ℕ). after (turn s) (turns_of c more.0)) same
                ∙ sym (after-joined (turn_events (length s.runs)) (turns_of (length s.runs) more.0) s),
          )
    ]

pub draining_is_turns : {W : Type 0} (s : MirrorState W) → (n : ℕ) × (n ≤ drain_bound s) × (drain s ≡ after s (turns_of (length s.runs) n))
draining_is_turns s = drain_within-turns (drain_bound s) s

-- the world of each copy of a drained mirror is the time-ordered execution
pub drained_worlds :
    {W : Type 0} (rules : Rules W) (s : MirrorState W) → IsStaggered s → IsDrained s
    → AllByRecursion (λ run. world_of rules s.opening run ≡ time_ordered rules s.opening s.accepted s.length) s.runs
drained_worlds rules s here drained =
    all-weaker (λ run. run ≡ ordered s.accepted 0 s.length) (λ run. world_of rules s.opening run ≡ time_ordered rules s.opening s.accepted s.length) s.runs
    (λ run e. ap (world_of rules s.opening) e) (drained_in_order s here drained)
