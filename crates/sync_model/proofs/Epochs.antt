-- Epochs count what renews a copy, and a ready tick that fits goes on fitting.
use Rattle.std.proofs.Common.{◌≡◌, ℕ, zero, suc, ◌+◌, ◌≤◌, ◌<◌, ◌↔◌, Bool, true, false, not, cond, ◌||◌, List, [], ◌∷◌, ◌++◌, map, length, get_or, set, refl, ap, sym, ◌∙◌, arith}
use Rattle.std.specs.Bool.{Decides}
use Rattle.std.proofs.lemmas.Bool.{or_parts, not-false, leb-false}
use Rattle.std.proofs.lemmas.Slice.Eq.{slice_eq-Decides}
use Rattle.game_trait.specs.declared.command.Command.{Command}
use Rattle.game_trait.specs.declared.command.Item.{Item}
use Rattle.game_trait.specs.declared.event.Event.{Event}
use Rattle.game_trait.specs.declared.event.Event.TheVariants.{Tick, Arrive, Step, Restagger}
use Rattle.game_trait.specs.Game.{Rules}
use Rattle.game_trait.specs.Run.{beats, world_of}
use Rattle.game_trait.specs.Ordered.{ordered, tick_of}
use Rattle.game_trait.specs.Events.{is_restagger}
use Rattle.game_trait.proofs.Items.{same_item-Decides}
use Rattle.game_trait.proofs.Runs.{beats-append, world_of-append}
use Rattle.game_trait.proofs.OrderedParts.{beats-ordered}
use Rattle.sync_model.specs.Schedule.{Schedule, limit_at}
use Rattle.sync_model.specs.State.{MirrorState, opening_state, schedule_of, copy_clock, step_limit}
use Rattle.sync_model.specs.Settle.{begins_with, rebuilt, settle_one, settle}
use Rattle.sync_model.specs.Change.{next, is_idle, is_change, changes, with_late, with_tick, proposed_by_arrival, proposed_by_step, after}
use Rattle.sync_model.specs.History.{without_room, first_state, IsReached}
use Rattle.sync_model.specs.Drafts.{same_items, run_of, tick_at, differs, renews, renewals, epoch, ReadyTick, draft_of, ready_of, IsDueTick, FitsReady}
use Rattle.sync_model.proofs.Proposals.{beats-with_late, beats-with_tick}
use Rattle.sync_model.proofs.Cases.{taken, ran, next-cases, restagger-cases, next-fixed, next-plan}
use Rattle.sync_model.proofs.History.{history-next, unchanged-next}
use Rattle.sync_model.proofs.Room.{first-next, next-same, reached_kept}

-- ---- what renews a copy

pub same_items-Decides : (a b : List Item) → Decides (same_items a b) (a ≡ b)
same_items-Decides a b = slice_eq-Decides same_item-Decides a b (same_items a b) refl

pub differs-same :
    {W : Type 0} (s t : MirrorState W) (c : ℕ) → run_of s c ≡ run_of t c → tick_at s c s.accepted ≡ tick_at s c t.accepted
    → differs s t c ≡ false
differs-same s t c run tick =
    let run_is : same_items (run_of s c) (run_of t c) ≡ true = (same_items-Decides (run_of s c) (run_of t c)).1 run in
    let tick_is : same_items (tick_at s c s.accepted) (tick_at s c t.accepted) ≡ true = (same_items-Decides (tick_at s c s.accepted) (tick_at s c t.accepted)).1 tick in
    rw (run_is, tick_is) refl

pub differs-not :
    {W : Type 0} (s t : MirrorState W) (c : ℕ) → differs s t c ≡ false
    → (run_of s c ≡ run_of t c) × (tick_at s c s.accepted ≡ tick_at s c t.accepted)
differs-not s t c h =
    let run = same_items (run_of s c) (run_of t c) in
    let tick = same_items (tick_at s c s.accepted) (tick_at s c t.accepted) in
    let parts = or_parts (not run) (not tick) h in (
      (same_items-Decides (run_of s c) (run_of t c)).0 (not-false run parts.0),
      (same_items-Decides (tick_at s c s.accepted) (tick_at s c t.accepted)).0 (not-false tick parts.1),
    )

-- where not both stay, they differ
pub differs-some :
    {W : Type 0} (s t : MirrorState W) (c : ℕ)
    → ((run_of s c ≡ run_of t c) → (tick_at s c s.accepted ≡ tick_at s c t.accepted) → ⊥) → differs s t c ≡ true
differs-some s t c apart =
    elim (differs s t c) as (λ v. differs s t c ≡ v → v ≡ true)
    [ true ↦ λ h. refl | false ↦ λ h. absurd (let both = differs-not s t c h in apart both.0 both.1) ]
    refl

pub renews_exactly :
    {W : Type 0} (s : MirrorState W) (c : ℕ) (e : Event)
    → (renews s c e ≡ false)
    ↔ ((is_restagger e ≡ false) × (run_of s c ≡ run_of (next s e) c) × (tick_at s c s.accepted ≡ tick_at s c (next s e).accepted))
renews_exactly s c e = (
  λ h.
      let parts = or_parts (is_restagger e) (differs s (next s e) c) h in
      let both = differs-not s (next s e) c parts.1 in
      (parts.0, both.0, both.1),
  λ h. (let same = differs-same s (next s e) c h.1 h.2 in rw (h.0, same) refl),
)

-- it doesn't turn on the room
renews-room : {W : Type 0} (s t : MirrorState W) (c : ℕ) (e : Event) → without_room s ≡ without_room t → renews s c e ≡ renews t c e
renews-room s t c e same = (let more = next-same s t e same in λ i. is_restagger e || differs (same i) (more i) c)

-- what changes nothing renews none
unchanged-plan : {W : Type 0} (s : MirrorState W) (e : Event) → changes s e ≡ false → is_restagger e ≡ false
unchanged-plan s Tick h = refl
unchanged-plan s (Arrive x) h = refl
unchanged-plan s (Step c) h = refl
unchanged-plan s (Restagger p) h = absurd (restagger-cases s p (λ t r. is_change r ≡ false → ⊥) (λ k. cc) h)

unchanged-renews : {W : Type 0} (s : MirrorState W) (c : ℕ) (e : Event) → changes s e ≡ false → renews s c e ≡ false
unchanged-renews {W} s c e h =
    let same = unchanged-next s e h in
    (renews_exactly s c e).1 (unchanged-plan s e h, ap (λ (t : MirrorState W). run_of t c) (sym same), ap (λ (t : MirrorState W). tick_at s c t.accepted) (sym same))

-- ---- epochs

renewals-append :
    {W : Type 0} (es fs : List Event) (s : MirrorState W) (c : ℕ) → renewals s c (es ++ fs) ≡ renewals s c es + renewals (after s es) c fs
unfolding renewals after
renewals-append [] fs s c = omega arith
renewals-append (e ∷ es) fs s c = omega (arith, renewals-append es fs (next s e) c)

at_most_one : (b : Bool) → cond {A = ℕ} b 1 0 ≤ 1
at_most_one true = omega arith
at_most_one false = omega arith

renewals-few : {W : Type 0} (es : List Event) (s : MirrorState W) (c : ℕ) → renewals s c es ≤ length es
unfolding renewals
renewals-few [] s c = omega arith
renewals-few (e ∷ es) s c = omega (arith, at_most_one (renews s c e), renewals-few es (next s e) c)

renewals-one : {W : Type 0} (s : MirrorState W) (c : ℕ) (e : Event) → renewals s c (e ∷ []) ≡ cond (renews s c e) 1 0
unfolding renewals
renewals-one s c e = omega arith

pub epoch_opens :
    {W : Type 0} (opening : W) (length : ℕ) (plans : List (List ℕ)) (spare plan_spare c : ℕ)
    → epoch (opening_state opening length plans spare plan_spare) c ≡ 0
unfolding renewals
epoch_opens opening length plans spare plan_spare c = refl

pub epoch_counts :
    {W : Type 0} (s : MirrorState W) (c : ℕ) (e : Event) → IsReached s → epoch (next s e) c ≡ epoch s c + cond (renews s c e) 1 0
epoch_counts {W} s c e here =
    elim (changes s e) as (λ v. changes s e ≡ v → epoch (next s e) c ≡ epoch s c + cond (renews s c e) 1 0) [
      | true ↦ λ h.
          let grown : (next s e).history ≡ s.history ++ e ∷ [] = rw h at (history-next s e) in
          ap (λ (es : List Event). renewals (first_state (next s e)) c es) grown
          ∙ ap (λ (t : MirrorState W). renewals t c (s.history ++ e ∷ [])) (first-next s e)
          ∙ renewals-append s.history (e ∷ []) (first_state s) c
          ∙ ap (λ (n : ℕ). epoch s c + n) (renewals-one (after (first_state s) s.history) c e)
          ∙ ap (λ (b : Bool). epoch s c + cond b 1 0) (renews-room (after (first_state s) s.history) s c e (sym here))
      | false ↦ λ h.
          let none = unchanged-renews s c e h in
          ap (λ (t : MirrorState W). epoch t c) (unchanged-next s e h) ∙ (let zero_more : epoch s c ≡ epoch s c + 0 = omega arith in rw none zero_more)
    ]
    refl

pub epoch_rises :
    {W : Type 0} (es : List Event) (s : MirrorState W) (c : ℕ) → IsReached s
    → (epoch s c ≤ epoch (after s es) c) × (epoch (after s es) c ≤ epoch s c + length es)
unfolding after
epoch_rises [] s c here = (omega arith, omega arith)
epoch_rises (e ∷ es) s c here =
    let one = epoch_counts s c e here in
    let few = at_most_one (renews s c e) in
    let more = epoch_rises es (next s e) c (reached_kept s e here) in
    let up = more.0 in
    let most = more.1 in
    (omega arith, omega arith)

pub epoch_bounded : {W : Type 0} (s : MirrorState W) (c : ℕ) → epoch s c ≤ length s.history
epoch_bounded s c = renewals-few s.history (first_state s) c

-- ---- no clock falls, whatever the state

beats-rebuilt_up : (accepted : List Command) (q s : List Item) → beats q ≤ beats (rebuilt accepted q s)
beats-rebuilt_up accepted q s =
    let sum = beats-append s (ordered accepted (beats s) (beats q)) in
    let part = beats-ordered accepted (beats s) (beats q) in
    omega arith

settle_one-head : (accepted : List Command) (q : List Item) (ss : List (List Item)) → beats q ≤ copy_clock (settle_one accepted q ss) zero
unfolding settle_one
settle_one-head accepted q [] = omega arith
settle_one-head accepted q (s ∷ rest) =
    elim (begins_with q s) as (λ v. beats q ≤ beats (cond v q (rebuilt accepted q s))) [ true ↦ omega arith | false ↦ beats-rebuilt_up accepted q s ]

-- a settled run behind is as it was settled
pub settle_one-behind : (accepted : List Command) (q : List Item) (ss : List (List Item)) (c : ℕ) → get_or (settle_one accepted q ss) (suc c) [] ≡ get_or ss c []
unfolding settle_one
settle_one-behind accepted q [] c = refl
settle_one-behind accepted q (s ∷ rest) c = refl

settled-up : (accepted : List Command) (qs : List (List Item)) (c : ℕ) → copy_clock qs c ≤ copy_clock (settle accepted qs) c
unfolding settle
settled-up accepted [] c = omega arith
settled-up accepted (q ∷ qs) zero = settle_one-head accepted q (settle accepted qs)
settled-up accepted (q ∷ qs) (suc c) =
    (let same = ap beats (settle_one-behind accepted q (settle accepted qs) c) in let more = settled-up accepted qs c in omega arith)

arrival-clocks : (x : Command) (runs : List (List Item)) (c : ℕ) → copy_clock (map (with_late x) runs) c ≡ copy_clock runs c
arrival-clocks x [] c = refl
arrival-clocks x (run ∷ runs) zero = beats-with_late x run
arrival-clocks x (run ∷ runs) (suc c) = arrival-clocks x runs c

set-up : (runs : List (List Item)) (a c : ℕ) (run : List Item) → copy_clock runs a ≤ beats run → copy_clock runs c ≤ copy_clock (set runs a run) c
set-up [] a c run h = omega arith
set-up (r ∷ rs) zero zero run h = h
set-up (r ∷ rs) zero (suc c) run h = omega arith
set-up (r ∷ rs) (suc a) zero run h = omega arith
set-up (r ∷ rs) (suc a) (suc c) run h = set-up rs a c run h

taken-up : {W : Type 0} (s : MirrorState W) (x : Command) (c : ℕ) → copy_clock s.runs c ≤ copy_clock (taken s x).runs c
taken-up s x c =
    let same = arrival-clocks x s.runs c in
    let up = settled-up (s.accepted ++ x ∷ []) (proposed_by_arrival x s.runs) c in
    omega arith

ran-up : {W : Type 0} (s : MirrorState W) (a c : ℕ) → copy_clock s.runs c ≤ copy_clock (ran s a).runs c
ran-up s a c =
    let run = get_or s.runs a [] in
    let one = beats-with_tick s.accepted (get_or s.runs a []) in
    let first = set-up s.runs a c (with_tick s.accepted (get_or s.runs a [])) (omega arith) in
    let up = settled-up s.accepted (proposed_by_step s.accepted s.runs a) c in
    omega arith

copy_clock-up : {W : Type 0} (s : MirrorState W) (e : Event) (c : ℕ) → copy_clock s.runs c ≤ copy_clock (next s e).runs c
copy_clock-up s e c =
    next-cases s e (λ t r. copy_clock s.runs c ≤ copy_clock t.runs c) (λ r h. omega arith) (omega arith) (λ x h. omega arith)
    (λ x h. taken-up s x c) (λ a h. ran-up s a c) (λ p h. omega arith)

clock-up : {W : Type 0} (s : MirrorState W) (e : Event) → s.clock ≤ (next s e).clock
clock-up s e =
    next-cases s e (λ t r. s.clock ≤ t.clock) (λ r h. omega arith) (omega arith) (λ x h. omega arith)
    (λ x h. omega arith) (λ a h. omega arith) (λ p h. omega arith)

limit_at-up : (plan : Schedule) (c k m i j : ℕ) → k ≤ m → i ≤ j → limit_at plan c k i ≤ limit_at plan c m j
unfolding limit_at
limit_at-up plan zero k m i j clock ahead = omega arith
limit_at-up plan (suc c) k m i j clock ahead = omega arith

schedule-next : {W : Type 0} (s : MirrorState W) (e : Event) → is_restagger e ≡ false → schedule_of (next s e) ≡ schedule_of s
schedule-next s e not =
    let fixed = next-fixed s e in
    let plan = next-plan s e not in
    λ i. record { delays = get_or (fixed.plans i) (plan i) []; length = fixed.length i }

-- where the plan stays, no limit falls
limit-up : {W : Type 0} (s : MirrorState W) (e : Event) (c : ℕ) → is_restagger e ≡ false → step_limit s c ≤ step_limit (next s e) c
unfolding step_limit
limit-up s e zero not =
    rw (schedule-next s e not) (limit_at-up (schedule_of s) zero s.clock (next s e).clock 0 0 (clock-up s e) (omega arith))
limit-up s e (suc c) not =
    rw (schedule-next s e not) (limit_at-up (schedule_of s) (suc c) s.clock (next s e).clock (copy_clock s.runs c) (copy_clock (next s e).runs c) (clock-up s e) (copy_clock-up s e c))

-- ---- ready ticks

-- where a copy isn't renewed its due tick stays
due_tick-kept :
    {W : Type 0} (rules : Rules W) (s : MirrorState W) (e : Event) (r : ReadyTick W) → renews s r.copy e ≡ false
    → IsDueTick rules s r → IsDueTick rules (next s e) r
unfolding with_tick
due_tick-kept {W} rules s e r h due =
    let same = (renews_exactly s r.copy e).0 h in
    let clock = ap beats same.1 in
    let limit = limit-up s e r.copy same.0 in
    let below = due.below_limit in
    let t = next s e in
    record {
      clock = due.clock ∙ clock;
      below_limit = omega arith;
      world = due.world
          ∙ ap (λ (o : W). world_of rules o (run_of s r.copy ++ tick_at s r.copy s.accepted)) (sym (next-fixed s e).opening)
          ∙ ap (λ (tick : List Item). world_of rules (next s e).opening (run_of s r.copy ++ tick)) same.2
          ∙ ap (λ (run : List Item). world_of rules (next s e).opening (run ++ tick_of (next s e).accepted (beats run))) same.1;
    }

pub ready_fits_kept :
    {W : Type 0} (rules : Rules W) (s : MirrorState W) (e : Event) (r : ReadyTick W) → IsReached s → FitsReady rules s r → FitsReady rules (next s e) r
ready_fits_kept rules s e r here fits =
    let count = epoch_counts s r.copy e here in
    let had = fits.had in
    let there = fits.there in
    let copies = (next-fixed s e).copies in
    record {
      there = omega arith;
      had = omega arith;
      due = λ has.
          elim (renews s r.copy e) as (λ v. renews s r.copy e ≡ v → IsDueTick rules (next s e) r) [
            | true ↦ λ h. (let more : epoch (next s e) r.copy ≡ epoch s r.copy + 1 = rw h at count in absurd (omega arith))
            | false ↦ λ h.
                let still : epoch (next s e) r.copy ≡ epoch s r.copy + 0 = rw h at count in
                due_tick-kept rules s e r h (fits.due (omega arith))
          ]
          refl;
    }

-- the due tick of a copy below its limit fits
pub draft_fits :
    {W : Type 0} (rules : Rules W) (s : MirrorState W) (c : ℕ) → c < length s.runs → is_idle s c ≡ false
    → FitsReady rules s (ready_of rules (draft_of rules s c))
unfolding with_tick
draft_fits rules s c there more =
    record {
      there = there;
      had = omega arith;
      due = λ has.
          record {
            clock = refl;
            below_limit = leb-false (step_limit s c) (copy_clock s.runs c) more;
            world = sym (world_of-append rules s.opening (run_of s c) (tick_at s c s.accepted));
          };
    }
