-- A mirror whose copies go back to the last one follows the one whose copies don't.
use Rattle.std.proofs.Common.{◌≡◌, refl, ◌∙◌, ap, sym, subst, ℕ, zero, suc, ◌+◌, ◌-◌, ◌≤◌, ◌<◌, min, true, false, cond, leb, ltb, ⊎_elim}
use Rattle.std.proofs.Common.{List, [], ◌∷◌, ◌++◌, map, length, get_or, set, append-nil, arith}
use Rattle.std.proofs.Math.ListN.{length-set}
use Rattle.std.proofs.lemmas.Bool.{cases_eq, ltb-false}
use Rattle.std.proofs.lemmas.Bool.Decides.{nat_tests}
use Rattle.std.proofs.lemmas.List.{get_or-set_same, get_or-set_other, length-map}
use Rattle.std.specs.List.{AllByRecursion}
use Rattle.game_trait.specs.declared.command.Command.{Command}
use Rattle.game_trait.specs.declared.command.Item.{Item}
use Rattle.game_trait.specs.declared.event.Event.TheVariants.{Tick, Arrive, Step, Restagger}
use Rattle.game_trait.specs.declared.event.Reply.TheVariants.{Tick as ToTick, Arrive as ToArrive}
use Rattle.game_trait.specs.declared.event.Arrived.TheVariants.{Late}
use Rattle.game_trait.specs.Game.{Rules}
use Rattle.game_trait.specs.Run.{beats, world_of, IsPrefix}
use Rattle.game_trait.specs.Ordered.{ordered}
use Rattle.game_trait.proofs.Lists.{all-at}
use Rattle.sync_model.specs.Lists.{last_of}
use Rattle.sync_model.specs.Schedule.{DelaysRise, limit_at}
use Rattle.sync_model.specs.State.{MirrorState, delays_of, copy_clock, last_clock, step_limit}
use Rattle.sync_model.specs.Staggered.{IsAhead, IsChained, IsComplete, IsNeverEarly, IsTrailing}
use Rattle.std.specs.Prelude.{if◌then◌else◌}
use Rattle.std.specs.List.{list_any}
use Rattle.game_trait.specs.Keys.{same_name}
use Rattle.game_trait.specs.declared.event.Ticked.TheVariants.{Moved, Over}
use Rattle.sync_model.specs.Change.{next, said, after, is_idle, is_repeat, is_late, with_late, with_tick, proposed_by_arrival, proposed_by_step}
use Rattle.sync_model.proofs.Settle.{settle-length}
use Rattle.sync_model.proofs.Along.{steps-keep, turn-keeps}
use Rattle.sync_model.proofs.Drain.{delays-next, delay-longest}
use Rattle.sync_model.specs.Turns.{steps_from, turn}
use Rattle.sync_model.proofs.Answered.{arrive_repeat, arrive_late, arrive_taken}
use Rattle.sync_model.proofs.Cases.{taken, ran, tick-cases, step-cases, next-fixed, copies_of}
use Rattle.sync_model.proofs.Limits.{last-is}
use Rattle.sync_model.proofs.Lists.{last-map, last_of-at}
use Rattle.sync_model.proofs.Staggered.{below_limit}
use Rattle.sync_model.proofs.Trailing.{beats-front, beats-step, beats-arrival, trailing-step, trailing-arrival}
use Rattle.sync_model.proofs.Forgotten.{last-all, all-begin}
use Rattle.sync_model.proofs.Clocks.{clocks_of, copy_clock-is, clock-step}
use Rattle.rolling_mirror.specs.Snapshot.{rolled_back}
use Rattle.rolling_mirror.specs.Moves.Move.{Turn, Comes, Replan}
use Rattle.rolling_mirror.specs.Moves.{Move, moved, after_moves, uncounted, said_to_move, said_to_moves, stepped, AreAtOne}

-- ---- a step of a mirror whose copies trail

abbrev Trails : {W : Type 0} → MirrorState W → Type 0
Trails s = IsTrailing s.accepted s.runs

-- no copy is behind the last
last-least : {W : Type 0} (s : MirrorState W) → Trails s → 0 < length s.runs → (i : ℕ) → i < length s.runs → last_clock s.runs ≤ copy_clock s.runs i
last-least s here some i there =
    beats-front (last_of [] s.runs) (get_or s.runs i [])
    (all-at (λ q. IsPrefix (last_of [] s.runs) q) s.runs i [] (all-begin s.runs some here.chained) there)

ran-trails : {W : Type 0} (s : MirrorState W) (c : ℕ) → Trails s → is_idle s c ≡ false → Trails (ran s c)
ran-trails s c here e = trailing-step here c (below_limit s c e).0

step-trails : {W : Type 0} (s : MirrorState W) (c : ℕ) → Trails s → Trails (next s (Step c))
step-trails s c here = step-cases s c (λ t r. Trails t) (λ e. here) (λ e. ran-trails s c here e)

ran-clocks : {W : Type 0} (s : MirrorState W) (c : ℕ) → Trails s → is_idle s c ≡ false → clocks_of (ran s c) ≡ set (clocks_of s) c (copy_clock s.runs c + 1)
ran-clocks s c here e = beats-step here c (below_limit s c e).0

ran-moves :
    {W : Type 0} (s : MirrorState W) (c : ℕ) → Trails s → is_idle s c ≡ false → c < length s.runs
    → copy_clock (ran s c).runs c ≡ copy_clock s.runs c + 1
ran-moves s c here e there =
    copy_clock-is (ran s c) c ∙ ap (λ (ks : List ℕ). get_or ks c 0) (ran-clocks s c here e)
    ∙ get_or-set_same (clocks_of s) c (copy_clock s.runs c + 1) 0 (let n = length-map s.runs beats in omega arith)

ran-others :
    {W : Type 0} (s : MirrorState W) (c i : ℕ) → Trails s → is_idle s c ≡ false → ((i ≡ c) → ⊥)
    → copy_clock (ran s c).runs i ≡ copy_clock s.runs i
ran-others s c i here e other =
    copy_clock-is (ran s c) i ∙ ap (λ (ks : List ℕ). get_or ks i 0) (ran-clocks s c here e)
    ∙ get_or-set_other (clocks_of s) c i (copy_clock s.runs c + 1) 0 other ∙ sym (copy_clock-is s i)

-- a step moves no other copy
step-others :
    {W : Type 0} (s : MirrorState W) (c i : ℕ) → Trails s → ((i ≡ c) → ⊥)
    → copy_clock (next s (Step c)).runs i ≡ copy_clock s.runs i
step-others s c i here other =
    step-cases s c (λ t r. copy_clock t.runs i ≡ copy_clock s.runs i) (λ e. refl) (λ e. ran-others s c i here e other)

-- the last copy's clock is that of the copy at the last place
last-at : {W : Type 0} (s : MirrorState W) (n : ℕ) → n ≡ length s.runs → 0 < n → copy_clock s.runs (n - 1) ≡ last_clock s.runs
last-at s n many some = last-is s.runs n many (omega arith)

-- ---- the steps of a turn

-- delays that don't fall
abbrev pub DontFall : List ℕ → ℕ → Type 0
DontFall ds n = (c : ℕ) → c < n → get_or ds c 0 ≤ get_or ds (n - 1) 0

-- a copy that stands where the last one may run a tick, and whose copy ahead has gone on, isn't idle
may-run :
    {W : Type 0} (s : MirrorState W) (n c k : ℕ) → n ≡ length s.runs → c < n → DontFall (delays_of s) n
    → k < min s.length (s.clock - get_or (delays_of s) (n - 1) 0)
    → ((i : ℕ) → i < c → k < copy_clock s.runs i) → copy_clock s.runs c ≡ k → is_idle s c ≡ false
unfolding step_limit limit_at
may-run s n zero k many there order room ahead at =
    (let d = order zero there in grind (arith, nat_tests))
may-run s n (suc c) k many there order room ahead at =
    (let d = order (suc c) there in let a = ahead c (omega arith) in grind (arith, nat_tests))

-- where the last copy may run none, it is idle
stays :
    {W : Type 0} (s : MirrorState W) (n c k : ℕ) → suc c ≡ n
    → min s.length (s.clock - get_or (delays_of s) (n - 1) 0) ≤ k
    → copy_clock s.runs c ≡ k → is_idle s c ≡ true
unfolding step_limit limit_at
stays s n zero k last room at =
    (let e : n - 1 ≡ 0 = omega arith in let f = ap (λ (j : ℕ). get_or (delays_of s) j 0) e in grind (arith, nat_tests))
stays s n (suc c) k last room at =
    (let e : n - 1 ≡ suc c = omega arith in let f = ap (λ (j : ℕ). get_or (delays_of s) j 0) e in grind (arith, nat_tests))

-- what the steps of a turn keep: the copies trail, there are n of them, the delays don't fall, and the
-- last copy may run up to here
pub record InTurn {W : Type 0} (n room : ℕ) (s : MirrorState W) : Type 0 where
  pub trails : Trails s
  pub many : n ≡ length s.runs
  pub order : DontFall (delays_of s) n
  pub room_is : min s.length (s.clock - get_or (delays_of s) (n - 1) 0) ≡ room

turn-step : {W : Type 0} (n room : ℕ) (s : MirrorState W) (c : ℕ) → InTurn n room s → InTurn n room (next s (Step c))
turn-step n room s c h =
    let fixed = next-fixed s (Step c) in
    let delays = delays-next s (Step c) refl in
    let copies : copies_of (next s (Step c)) ≡ length s.runs = fixed.copies in
    record {
      trails = step-trails s c h.trails;
      many = h.many ∙ sym copies;
      order = subst (λ (ds : List ℕ). DontFall ds n) (sym delays) h.order;
      room_is = (λ i. min (fixed.length i) (clock-step s c i - get_or (delays i) (n - 1) 0)) ∙ h.room_is;
    }

-- the last copy runs a tick where it may
abbrev pub went : ℕ → ℕ → ℕ
went room k = cond {A = ℕ} (ltb k room) (k + 1) k

-- a step of the last copy
last-step :
    {W : Type 0} (n room k c : ℕ) (s : MirrorState W) → InTurn n room s → suc c ≡ n → last_clock s.runs ≡ k
    → (k < room → (i : ℕ) → i < c → k < copy_clock s.runs i)
    → last_clock (next s (Step c)).runs ≡ went room k
last-step n room k c s h upto last ahead =
    let many = h.many in
    let back : n - 1 ≡ c = omega arith in
    let at : copy_clock s.runs c ≡ k = sym (ap (copy_clock s.runs) back) ∙ last-at s n h.many (omega arith) ∙ last in
    elim (ltb k room) as (λ v. ltb k room ≡ v → last_clock (next s (Step c)).runs ≡ cond {A = ℕ} v (k + 1) k) [
      | true ↦ λ e.
          let below : k < room = grind (arith, nat_tests) in
          let runs = may-run s n c k h.many (omega arith) h.order (subst (λ (m : ℕ). k < m) (sym h.room_is) below) (ahead below) at in
          step-cases s c (λ t r. last_clock t.runs ≡ k + 1)
          (λ idle. absurd (let f = sym runs ∙ idle in cc))
          (λ more.
          let copies : length (ran s c).runs ≡ length s.runs = settle-length s.accepted (proposed_by_step s.accepted s.runs c) ∙ length-set s.runs c (with_tick s.accepted (get_or s.runs c [])) in
          sym (last-at (ran s c) n (h.many ∙ sym copies) (omega arith)) ∙ ap (copy_clock (ran s c).runs) back ∙ ran-moves s c h.trails more (omega arith)
          ∙ ap (λ (m : ℕ). m + 1) at)
      | false ↦ λ e.
          let past : room ≤ k = grind (arith, nat_tests) in
          let idle = stays s n c k upto (subst (λ (m : ℕ). m ≤ k) (sym h.room_is) past) at in
          step-cases s c (λ t r. last_clock t.runs ≡ k) (λ _. last) (λ more. absurd (let f = sym idle ∙ more in cc))
    ]
    refl

-- the steps from a copy on
pub steps-last :
    {W : Type 0} (j c n room k : ℕ) (s : MirrorState W) → InTurn n room s → c + suc j ≡ n → last_clock s.runs ≡ k
    → (k < room → (i : ℕ) → i < c → k < copy_clock s.runs i)
    → last_clock (after s (steps_from c (suc j))).runs ≡ went room k
unfolding after steps_from
steps-last zero c n room k s h upto last ahead = last-step n room k c s h (omega arith) last ahead
steps-last (suc j) c n room k s h upto last ahead =
    let next_one = turn-step n room s c h in
    let other : (n - 1 ≡ c) → ⊥ = λ e. omega arith in
    let same = sym (last-at (next s (Step c)) n next_one.many (omega arith)) ∙ step-others s c (n - 1) h.trails other ∙ last-at s n h.many (omega arith) ∙ last in
    steps-last j (c + 1) n room k (next s (Step c)) next_one (omega arith) same
    (λ more i below.
    ⊎_elim
    (λ (e : i ≡ c).
    subst (λ (m : ℕ). k < copy_clock (next s (Step c)).runs m) (sym e)
    (let many = h.many in
    let least = last-least s h.trails (omega arith) c (omega arith) in
    step-cases s c (λ t r. k < copy_clock t.runs c)
    (λ idle.
    ⊎_elim
    (λ (at : copy_clock s.runs c ≡ k).
    absurd (let runs = may-run s n c k h.many (omega arith) h.order (subst (λ (m : ℕ). k < m) (sym h.room_is) more) (ahead more) at in let f = sym runs ∙ idle in cc))
    (λ (off : copy_clock s.runs c ≡ k → ⊥). (let far : (k ≡ copy_clock s.runs c) → ⊥ = λ f. off (sym f) in omega arith))
    (cases_eq (copy_clock s.runs c) k))
    (λ ran_on. (let moves = ran-moves s c h.trails ran_on (omega arith) in omega arith))))
    (λ (e : i ≡ c → ⊥). (let still = step-others s c i h.trails e in let before = ahead more i (grind arith) in omega arith))
    (cases_eq i c))

-- ---- a turn

-- where a tick leaves the clock
abbrev clock_after : ℕ → List ℕ → ℕ → ℕ
clock_after long delays clock = cond {A = ℕ} (leb (long + last_of 0 delays) clock) clock (clock + 1)

tick-clock : {W : Type 0} (s : MirrorState W) → (next s Tick).clock ≡ clock_after s.length (delays_of s) s.clock
tick-clock s = tick-cases s (λ t r. t.clock ≡ clock_after s.length (delays_of s) s.clock) (λ e. rw e refl) (λ e. rw e refl)

tick-runs : {W : Type 0} (s : MirrorState W) → (next s Tick).runs ≡ s.runs
tick-runs s = tick-cases s (λ t r. t.runs ≡ s.runs) (λ e. refl) (λ e. refl)

tick-trails : {W : Type 0} (s : MirrorState W) → Trails s → Trails (next s Tick)
tick-trails s here = tick-cases s (λ t r. Trails t) (λ e. here) (λ e. here)

-- how far the last of n copies may go after a tick
abbrev room_after : ℕ → List ℕ → ℕ → ℕ → ℕ
room_after long delays clock n = min long (clock_after long delays clock - get_or delays (n - 1) 0)

turn-last :
    {W : Type 0} (n : ℕ) (s : MirrorState W) → Trails s → n ≡ length s.runs → 0 < n → DontFall (delays_of s) n
    → last_clock (turn s).runs ≡ went (room_after s.length (delays_of s) s.clock n) (last_clock s.runs)
unfolding after
turn-last n s here many some order =
    let t = next s Tick in
    let fixed = next-fixed s Tick in
    let delays = delays-next s Tick refl in
    let runs = tick-runs s in
    let one : n ≡ suc (n - 1) = omega arith in
    ap (λ (m : ℕ). last_clock (after t (steps_from 0 m)).runs) (sym many ∙ one)
    ∙ steps-last (n - 1) 0 n (room_after s.length (delays_of s) s.clock n) (last_clock s.runs) t
    (record {
      trails = tick-trails s here;
      many = many ∙ sym (ap length runs);
      order = subst (λ (ds : List ℕ). DontFall ds n) (sym delays) order;
      room_is = λ i. min (fixed.length i) (tick-clock s i - get_or (delays i) (n - 1) 0);
    })
    (omega arith) (ap last_clock runs) (λ more i below. absurd (omega arith))

turn-clock : {W : Type 0} (s : MirrorState W) → (turn s).clock ≡ (next s Tick).clock
unfolding after
turn-clock s = steps-keep (λ t. t.clock ≡ (next s Tick).clock) (λ t c h. clock-step t c ∙ h) (length s.runs) 0 (next s Tick) refl

-- what a turn leaves as it is
record SameIn {W : Type 0} (s t : MirrorState W) : Type 0 where
  pub opening : t.opening ≡ s.opening
  pub length_is : t.length ≡ s.length
  pub plans : t.plans ≡ s.plans
  pub plan : t.plan ≡ s.plan
  pub accepted : t.accepted ≡ s.accepted
  pub turned : t.turned ≡ s.turned
  pub copies : length t.runs ≡ length s.runs
  pub trails : Trails t

turn-same : {W : Type 0} (s : MirrorState W) → Trails s → SameIn s (turn s)
turn-same s here =
    turn-keeps (SameIn s)
    (λ t h. tick-cases t (λ u r. SameIn s u) (λ e. h) (λ e. record {
      opening = h.opening;
      length_is = h.length_is;
      plans = h.plans;
      plan = h.plan;
      accepted = h.accepted;
      turned = h.turned;
      copies = h.copies;
      trails = h.trails;
    }))
    (λ t c h. step-cases t c (λ u r. SameIn s u) (λ e. h) (λ e. record {
      opening = h.opening;
      length_is = h.length_is;
      plans = h.plans;
      plan = h.plan;
      accepted = h.accepted;
      turned = h.turned;
      copies = settle-length t.accepted (proposed_by_step t.accepted t.runs c) ∙ length-set t.runs c (with_tick t.accepted (get_or t.runs c [])) ∙ h.copies;
      trails = ran-trails t c h.trails e;
    }))
    s (record { opening = refl; length_is = refl; plans = refl; plan = refl; accepted = refl; turned = refl; copies = refl; trails = here })

-- ---- two mirrors side by side

record GoAlong {W : Type 0} (n : ℕ) (s t : MirrorState W) : Type 0 where
  pub opening : s.opening ≡ t.opening
  pub length_is : s.length ≡ t.length
  pub plans : s.plans ≡ t.plans
  pub plan : s.plan ≡ t.plan
  pub clock : s.clock ≡ t.clock
  pub accepted : s.accepted ≡ t.accepted
  pub turned : s.turned ≡ t.turned
  pub last : last_clock s.runs ≡ last_clock t.runs
  pub trails : Trails s
  pub trails_too : Trails t
  pub many : n ≡ length s.runs
  pub many_too : n ≡ length t.runs
  pub order : (p : ℕ) → DontFall (get_or s.plans p []) n

same-delays : {W : Type 0} (n : ℕ) (s t : MirrorState W) → GoAlong n s t → delays_of s ≡ delays_of t
same-delays n s t h = λ i. get_or (h.plans i) (h.plan i) []

turn-along : {W : Type 0} (n : ℕ) (s t : MirrorState W) → 0 < n → GoAlong n s t → GoAlong n (turn s) (turn t)
turn-along n s t some h =
    let a = turn-same s h.trails in
    let b = turn-same t h.trails_too in
    let delays = same-delays n s t h in
    let order_too : DontFall (delays_of t) n = subst (λ (ds : List ℕ). DontFall ds n) delays (h.order s.plan) in
    record {
      opening = a.opening ∙ h.opening ∙ sym b.opening;
      length_is = a.length_is ∙ h.length_is ∙ sym b.length_is;
      plans = a.plans ∙ h.plans ∙ sym b.plans;
      plan = a.plan ∙ h.plan ∙ sym b.plan;
      clock =
          turn-clock s ∙ tick-clock s ∙ (λ i. clock_after (h.length_is i) (delays i) (h.clock i))
          ∙ sym (turn-clock t ∙ tick-clock t);
      accepted = a.accepted ∙ h.accepted ∙ sym b.accepted;
      turned = a.turned ∙ h.turned ∙ sym b.turned;
      last =
          turn-last n s h.trails h.many some (h.order s.plan)
          ∙ (λ i. went (room_after (h.length_is i) (delays i) (h.clock i) n) (h.last i))
          ∙ sym (turn-last n t h.trails_too h.many_too some order_too);
      trails = a.trails;
      trails_too = b.trails;
      many = h.many ∙ sym a.copies;
      many_too = h.many_too ∙ sym b.copies;
      order = subst (λ (ps : List (List ℕ)). (p : ℕ) → DontFall (get_or ps p []) n) (sym a.plans) h.order;
    }

-- a command that is taken moves no clock
taken-last : {W : Type 0} (s : MirrorState W) (x : Command) → Trails s → last_clock (taken s x).runs ≡ last_clock s.runs
unfolding beats
taken-last s x here =
    sym (last-map beats [] (taken s x).runs) ∙ ap (last_of 0) (beats-arrival here x) ∙ last-map beats [] s.runs

taken-copies : {W : Type 0} (s : MirrorState W) (x : Command) → length (taken s x).runs ≡ length s.runs
taken-copies s x = settle-length (s.accepted ++ x ∷ []) (proposed_by_arrival x s.runs) ∙ length-map s.runs (with_late x)

taken-trails : {W : Type 0} (s : MirrorState W) (x : Command) → Trails s → is_late s x ≡ false → Trails (taken s x)
taken-trails s x here e = trailing-arrival here x (ltb-false x.time (last_clock s.runs) e)

abbrev Both : {W : Type 0} (n : ℕ) (s t : MirrorState W) (x : Command) → Type 0
Both n s t x = GoAlong n (next s (Arrive x)) (next t (Arrive x)) × (uncounted (said s (Arrive x)) ≡ uncounted (said t (Arrive x)))

arrive-along : {W : Type 0} (n : ℕ) (s t : MirrorState W) (x : Command) → GoAlong n s t → Both n s t x
arrive-along {W} n s t x h =
    let repeat : is_repeat t x ≡ is_repeat s x = sym (ap (λ (l : List Command). list_any (same_name x) l) h.accepted) in
    let late : is_late t x ≡ is_late s x = sym (ap (ltb x.time) h.last) in
    elim (is_repeat s x) as (λ v. is_repeat s x ≡ v → Both n s t x) [
      | true ↦ λ e.
          let a = arrive_repeat s x e in
          let b = arrive_repeat t x (repeat ∙ e) in
          (rw (a.0, b.0) h, rw (a.1, b.1) refl)
      | false ↦ λ e.
          elim (is_late s x) as (λ v. is_late s x ≡ v → Both n s t x) [
            | true ↦ λ l.
                let a = arrive_late s x e l in
                let b = arrive_late t x (repeat ∙ e) (late ∙ l) in (
                  rw (a.0, b.0) (record {
                    opening = h.opening;
                    length_is = h.length_is;
                    plans = h.plans;
                    plan = h.plan;
                    clock = h.clock;
                    accepted = h.accepted;
                    turned = λ i. h.turned i ++ record { from = x.from; number = x.number; bound = h.last i } ∷ [];
                    last = h.last;
                    trails = h.trails;
                    trails_too = h.trails_too;
                    many = h.many;
                    many_too = h.many_too;
                    order = h.order;
                  }),
                  rw (a.1, b.1) (ap (λ (k : ℕ). ToArrive (Late k)) h.last),
                )
            | false ↦ λ l.
                let a = arrive_taken s x e l in
                let b = arrive_taken t x (repeat ∙ e) (late ∙ l) in (
                  rw (a.0, b.0) (record {
                    opening = h.opening;
                    length_is = h.length_is;
                    plans = h.plans;
                    plan = h.plan;
                    clock = h.clock;
                    accepted = ap (λ (l : List Command). l ++ x ∷ []) h.accepted;
                    turned = h.turned;
                    last = taken-last s x h.trails ∙ h.last ∙ sym (taken-last t x h.trails_too);
                    trails = taken-trails s x h.trails l;
                    trails_too = taken-trails t x h.trails_too (late ∙ l);
                    many = h.many ∙ sym (taken-copies s x);
                    many_too = h.many_too ∙ sym (taken-copies t x);
                    order = h.order;
                  }),
                  rw (a.1, b.1) refl,
                )
          ]
          refl
    ]
    refl

replan-along : {W : Type 0} (n : ℕ) (s t : MirrorState W) (p : ℕ) → GoAlong n s t → GoAlong n (next s (Restagger p)) (next t (Restagger p))
unfolding next
replan-along n s t p h = record {
  opening = h.opening;
  length_is = h.length_is;
  plans = h.plans;
  plan = refl;
  clock = h.clock;
  accepted = h.accepted;
  turned = h.turned;
  last = h.last;
  trails = h.trails;
  trails_too = h.trails_too;
  many = h.many;
  many_too = h.many_too;
  order = h.order;
}

tick-alike : {W : Type 0} (n : ℕ) (s t : MirrorState W) → GoAlong n s t → said s Tick ≡ said t Tick
unfolding said
tick-alike n s t h =
    let delays = same-delays n s t h in
    λ i. ToTick (if leb (h.length_is i + last_of 0 (delays i)) (h.clock i) then Over else Moved)

restagger-alike : {W : Type 0} (s t : MirrorState W) (p : ℕ) → said s (Restagger p) ≡ said t (Restagger p)
unfolding said
restagger-alike s t p = refl

move-along :
    {W : Type 0} (n : ℕ) (s t : MirrorState W) (m : Move) → 0 < n → GoAlong n s t
    → GoAlong n (moved s m) (moved t m) × (said_to_move s m ≡ said_to_move t m)
move-along n s t Turn some h = (turn-along n s t some h, tick-alike n s t h)
move-along n s t (Comes x) some h = arrive-along n s t x h
move-along n s t (Replan p) some h = (replan-along n s t p h, restagger-alike s t p)

at-one : {W : Type 0} (rules : Rules W) (n : ℕ) (s t : MirrorState W) → GoAlong n s t → AreAtOne rules s t
at-one rules n s t h =
    let run : last_of [] s.runs ≡ last_of [] t.runs =
    h.trails.last_ordered ∙ (λ i. ordered (h.accepted i) 0 (h.last i)) ∙ sym h.trails_too.last_ordered in
    record {
      clock = h.clock;
      plan = h.plan;
      accepted = h.accepted;
      turned = h.turned;
      last_run = run;
      last_world = λ i. world_of rules (h.opening i) (run i);
    }

moves-along :
    {W : Type 0} (rules : Rules W) (ms : List Move) (n : ℕ) (s t : MirrorState W) → 0 < n → GoAlong n s t
    → AreAtOne rules (after_moves s ms) (after_moves t ms) × (said_to_moves s ms ≡ said_to_moves t ms)
unfolding after_moves said_to_moves
moves-along rules [] n s t some h = (at-one rules n s t h, refl)
moves-along rules (m ∷ ms) n s t some h =
    let one = move-along n s t m some h in
    let more = moves-along rules ms n (moved s m) (moved t m) some one.0 in
    (more.0, λ i. one.1 i ∷ more.1 i)

-- ---- and its copies go back to the last one

each-chained : (last : List Item) (runs : List (List Item)) → IsChained (map (λ run. last) runs)
unfolding IsChained IsAhead
each-chained last [] = tt
each-chained last (r ∷ []) = (tt, tt)
each-chained last (r ∷ q ∷ runs) = (([], sym (append-nil last)), each-chained last (q ∷ runs))

each-all : (P : List Item → Type 0) (last : List Item) (runs : List (List Item)) → P last → AllByRecursion P (map (λ run. last) runs)
each-all P last [] h = tt
each-all P last (r ∷ runs) h = (h, each-all P last runs h)

each-last : (last : List Item) (runs : List (List Item)) → 0 < length runs → last_of [] (map (λ run. last) runs) ≡ last
unfolding last_of
each-last last [] some = absurd (omega arith)
each-last last (r ∷ []) some = refl
each-last last (r ∷ q ∷ runs) some = each-last last (q ∷ runs) (omega arith)

back-trails : {W : Type 0} (s : MirrorState W) → Trails s → 0 < length s.runs → Trails (rolled_back s)
back-trails s here some =
    let last = last_of [] s.runs in
    let same = each-last last s.runs some in
    record {
      chained = each-chained last s.runs;
      complete = each-all (IsComplete s.accepted) last s.runs (last-all (IsComplete s.accepted) s.runs some here.complete);
      last_ordered = same ∙ here.last_ordered ∙ ap (λ (run : List Item). ordered s.accepted 0 (beats run)) (sym same);
      never_early = each-all (IsNeverEarly zero) last s.runs (last-all (IsNeverEarly zero) s.runs some here.never_early);
    }

last-here : (d : ℕ) (ds : List ℕ) → last_of 0 (d ∷ ds) ≡ last_of d ds
unfolding last_of
last-here d ds = refl

-- the last of so many delays that rise is none shorter than another
pub dont-fall : (ds : List ℕ) (n : ℕ) → DelaysRise ds → length ds ≡ n → DontFall ds n
dont-fall [] n rise many = λ c there. absurd (omega arith)
dont-fall (d ∷ ds) n rise many = λ c there.
    let back : n - 1 ≡ length ds = omega arith in
    let last : last_of 0 (d ∷ ds) ≡ get_or (d ∷ ds) (n - 1) 0 = last-here d ds ∙ last_of-at d 0 ds ∙ ap (λ (i : ℕ). get_or (d ∷ ds) i 0) (sym back) in
    let longest = delay-longest (d ∷ ds) c rise in
    subst (λ (m : ℕ). get_or (d ∷ ds) c 0 ≤ m) last longest

none-fall : (n : ℕ) → DontFall [] n
none-fall n c there = omega arith

each-dont-fall :
    (plans : List (List ℕ)) (n : ℕ) → AllByRecursion DelaysRise plans → AllByRecursion (λ delays. length delays ≡ n) plans
    → (p : ℕ) → DontFall (get_or plans p []) n
each-dont-fall [] n rise same p = none-fall n
each-dont-fall (ds ∷ plans) n rise same zero = dont-fall ds n rise.0 same.0
each-dont-fall (ds ∷ plans) n rise same (suc p) = each-dont-fall plans n rise.1 same.1 p

-- a step of a copy that isn't the last, at one of both
step-along : {W : Type 0} (n : ℕ) (s t : MirrorState W) (c : ℕ) → c + 1 < n → GoAlong n s t → GoAlong n s (next t (Step c))
step-along n s t c ahead h =
    let other : (n - 1 ≡ c) → ⊥ = λ e. omega arith in
    step-cases t c (λ u r. GoAlong n s u) (λ e. h) (λ e.
    let copies : length (ran t c).runs ≡ length t.runs = settle-length t.accepted (proposed_by_step t.accepted t.runs c) ∙ length-set t.runs c (with_tick t.accepted (get_or t.runs c [])) in
    let many = h.many_too ∙ sym copies in
    record {
      opening = h.opening;
      length_is = h.length_is;
      plans = h.plans;
      plan = h.plan;
      clock = h.clock;
      accepted = h.accepted;
      turned = h.turned;
      last = h.last ∙ sym (last-at t n h.many_too (omega arith)) ∙ sym (ran-others t c (n - 1) h.trails_too e other) ∙ last-at (ran t c) n many (omega arith);
      trails = h.trails;
      trails_too = ran-trails t c h.trails_too e;
      many = h.many;
      many_too = many;
      order = h.order;
    })

steps-along :
    {W : Type 0} (cs : List ℕ) (n : ℕ) (s t : MirrorState W) → AllByRecursion (λ c. c + 1 < n) cs → GoAlong n s t → GoAlong n s (stepped cs t)
unfolding after
steps-along [] n s t ahead h = h
steps-along (c ∷ cs) n s t ahead h = steps-along cs n s (next t (Step c)) ahead.1 (step-along n s t c ahead.0 h)

pub joiner-follows :
    {W : Type 0} (rules : Rules W) (whole : MirrorState W) (cs : List ℕ) (ms : List Move) → Trails whole → 0 < length whole.runs
    → AllByRecursion DelaysRise whole.plans → AllByRecursion (λ delays. length delays ≡ length whole.runs) whole.plans
    → AllByRecursion (λ c. c + 1 < length whole.runs) cs
    → AreAtOne rules (after_moves whole ms) (after_moves (stepped cs (rolled_back whole)) ms)
    × (said_to_moves whole ms ≡ said_to_moves (stepped cs (rolled_back whole)) ms)
joiner-follows rules whole cs ms here some rise same ahead =
    moves-along rules ms (length whole.runs) whole (stepped cs (rolled_back whole)) some
    (steps-along cs (length whole.runs) whole (rolled_back whole) ahead (record {
      opening = refl;
      length_is = refl;
      plans = refl;
      plan = refl;
      clock = refl;
      accepted = refl;
      turned = refl;
      last = sym (ap beats (each-last (last_of [] whole.runs) whole.runs some));
      trails = here;
      trails_too = back-trails whole here some;
      many = refl;
      many_too = sym (length-map whole.runs (λ run. last_of [] whole.runs));
      order = each-dont-fall whole.plans (length whole.runs) rise same;
    }))
