-- Room decides nothing but itself; what a history says of the state, with its room and without it.
use Rattle.std.proofs.Common.{◌≡◌, ℕ, zero, suc, ◌+◌, ◌-◌, Bool, true, false, cond, ◌&&◌, List, [], ◌∷◌, ◌++◌, refl, ap, sym, ◌∙◌, subst, arith}
use Rattle.game_trait.specs.declared.event.Event.{Event}
use Rattle.game_trait.specs.declared.event.Event.TheVariants.{Tick, Arrive, Step, Restagger}
use Rattle.game_trait.specs.declared.event.Reply.{Reply}
use Rattle.game_trait.specs.Count.{times}
use Rattle.game_trait.specs.Events.{is_arrival, is_restagger}
use Rattle.game_trait.proofs.Counts.{times-append}
use Rattle.sync_model.specs.State.{MirrorState, opening_state, step_limit}
use Rattle.game_trait.specs.declared.event.Reply.TheVariants.{Tick as ToTick, Arrive as ToArrive, Step as ToStep, Restaggered}
use Rattle.game_trait.specs.declared.event.Arrived.TheVariants.{Taken, Repeat, Late}
use Rattle.game_trait.specs.declared.event.Stepped.TheVariants.{Ran, Idle}
use Rattle.sync_model.specs.Change.{next, said, is_over, is_repeat, is_late, is_idle, is_change, changes, after, answers}
use Rattle.sync_model.specs.History.{EachChanges, with_room, without_room, first_state, IsReached, opening_of, IsFromHistory, HasRoom, HasRoomAlong, repaired_in, repairs_in, repairs}
use Rattle.sync_model.proofs.Cases.{SameParts, moved, away, taken, ran, tick-cases, arrive-cases, step-cases, restagger-cases, next-fixed}
use Rattle.sync_model.proofs.History.{history-next, unchanged-next, after-append, answers-append}

-- ---- room decides nothing

-- no limit depends on it
limit-room : {W : Type 0} (s : MirrorState W) (n m c : ℕ) → step_limit (with_room s n m) c ≡ step_limit s c
unfolding step_limit
limit-room s n m zero = refl
limit-room s n m (suc c) = refl

pub said-room : {W : Type 0} (s : MirrorState W) (n m : ℕ) (e : Event) → said (with_room s n m) e ≡ said s e
unfolding said
said-room s n m Tick = refl
said-room s n m (Arrive x) = refl
said-room s n m (Step c) = rw (limit-room s n m c) refl
said-room s n m (Restagger p) = refl

pub next-room : {W : Type 0} (s : MirrorState W) (n m : ℕ) (e : Event) → without_room (next (with_room s n m) e) ≡ without_room (next s e)
unfolding next
next-room s n m Tick =
    elim (is_over s) as (λ v. without_room (cond v (with_room s n m) (moved (with_room s n m))) ≡ without_room (cond v s (moved s))) [ true ↦ refl | false ↦ refl ]
next-room s n m (Arrive x) =
    elim (is_repeat s x) as (λ v. without_room (cond v (with_room s n m)
    (cond (is_late s x) (away (with_room s n m) x) (taken (with_room s n m) x)))
    ≡ without_room (cond v s (cond (is_late s x) (away s x) (taken s x)))) [
      | true ↦ refl
      | false ↦
          elim (is_late s x) as (λ v. without_room (cond v (away (with_room s n m) x) (taken (with_room s n m) x)) ≡ without_room (cond v (away s x) (taken s x)))
          [ true ↦ refl | false ↦ refl ]
    ]
next-room s n m (Step c) =
    rw (limit-room s n m c)
    (elim (is_idle s c) as (λ v. without_room (cond v (with_room s n m) (ran (with_room s n m) c)) ≡ without_room (cond v s (ran s c))) [ true ↦ refl | false ↦ refl ])
next-room s n m (Restagger p) = refl

-- states that are one but for their room answer alike, and go on so
pub said-same : {W : Type 0} (s t : MirrorState W) (e : Event) → without_room s ≡ without_room t → said s e ≡ said t e
said-same {W} s t e same = sym (said-room s 0 0 e) ∙ ap (λ (u : MirrorState W). said u e) same ∙ said-room t 0 0 e

pub next-same : {W : Type 0} (s t : MirrorState W) (e : Event) → without_room s ≡ without_room t → without_room (next s e) ≡ without_room (next t e)
next-same {W} s t e same = sym (next-room s 0 0 e) ∙ ap (λ (u : MirrorState W). without_room (next u e)) same ∙ next-room t 0 0 e

pub after-same : {W : Type 0} (es : List Event) (s t : MirrorState W) → without_room s ≡ without_room t → without_room (after s es) ≡ without_room (after t es)
unfolding after
after-same [] s t same = same
after-same (e ∷ es) s t same = after-same es (next s e) (next t e) (next-same s t e same)

pub answers-same : {W : Type 0} (es : List Event) (s t : MirrorState W) → without_room s ≡ without_room t → answers s es ≡ answers t es
unfolding answers
answers-same [] s t same = refl
answers-same (e ∷ es) s t same = rw (said-same s t e same, answers-same es (next s e) (next t e) (next-same s t e same)) refl

-- ---- what a history says, room left out

same-first : {W : Type 0} (s t : MirrorState W) → SameParts s t → first_state t ≡ first_state s
same-first s t same = λ i. opening_state (same.opening i) (same.length i) (same.plans i) 0 0

-- the first state of a mirror stays, and its history gains the event where it changes the state
pub first-next : {W : Type 0} (s : MirrorState W) (e : Event) → first_state (next s e) ≡ first_state s
first-next s e = same-first s (next s e) (next-fixed s e)

-- what holds of the grown history and the changed state, and of the state as it is, holds of the next
by-history :
    {W : Type 0} (s : MirrorState W) (e : Event) (Q : MirrorState W → List Event → Type 0)
    → (changes s e ≡ true → Q (next s e) (s.history ++ e ∷ [])) → Q s s.history → Q (next s e) (next s e).history
by-history {W} s e Q grown same =
    elim (changes s e) as (λ v. changes s e ≡ v → Q (next s e) (next s e).history) [
      | true ↦ λ h. subst (Q (next s e)) (sym (rw h at (history-next s e))) (grown h)
      | false ↦ λ h. subst (λ (t : MirrorState W). Q t t.history) (sym (unchanged-next s e h)) same
    ]
    refl

-- a state that its history leads to answers as the state after that history
reached-said : {W : Type 0} (s : MirrorState W) (e : Event) → IsReached s → said (after (first_state s) s.history) e ≡ said s e
reached-said s e here = said-same (after (first_state s) s.history) s e (sym here)

-- every event leaves a state that its history leads to
pub reached_kept : {W : Type 0} (s : MirrorState W) (e : Event) → IsReached s → IsReached (next s e)
unfolding after
reached_kept {W} s e here =
    by-history s e (λ t h. without_room t ≡ without_room (after (first_state t) h))
    (λ h.
    next-same s (after (first_state s) s.history) e here
    ∙ ap (λ (t : MirrorState W). without_room t) (sym (after-append (first_state s) s.history (e ∷ [])))
    ∙ ap (λ (t : MirrorState W). without_room (after t (s.history ++ e ∷ []))) (sym (first-next s e)))
    here

pub reached-after : {W : Type 0} (es : List Event) (s : MirrorState W) → IsReached s → IsReached (after s es)
unfolding after
reached-after [] s here = here
reached-after (e ∷ es) s here = reached-after es (next s e) (reached_kept s e here)

-- each event of a history changed its state
each_changes-append : {W : Type 0} (s : MirrorState W) (es : List Event) (e : Event) → EachChanges s es → changes (after s es) e ≡ true → EachChanges s (es ++ e ∷ [])
unfolding after EachChanges
each_changes-append s [] e h here = (here, tt)
each_changes-append s (f ∷ es) e h here = (h.0, each_changes-append (next s f) es e h.1 here)

pub history_of_changes : {W : Type 0} (s : MirrorState W) (e : Event) → IsReached s → EachChanges (first_state s) s.history → EachChanges (first_state (next s e)) (next s e).history
history_of_changes {W} s e here each =
    by-history s e (λ t h. EachChanges (first_state t) h)
    (λ h. subst (λ (t : MirrorState W). EachChanges t (s.history ++ e ∷ [])) (sym (first-next s e)) (each_changes-append (first_state s) s.history e each (ap is_change (reached-said s e here) ∙ h)))
    each

-- repairs add up
repairs_in-append : (rs qs : List Reply) → repairs_in (rs ++ qs) ≡ repairs_in rs + repairs_in qs
unfolding repairs_in
repairs_in-append [] qs = omega arith
repairs_in-append (r ∷ rs) qs = omega (arith, repairs_in-append rs qs)

no_repair : (r : Reply) → is_change r ≡ false → repaired_in r ≡ 0
no_repair (ToTick ticked) h = refl
no_repair (ToArrive (Taken n)) h = absurd cc
no_repair (ToArrive Repeat) h = refl
no_repair (ToArrive (Late bound)) h = refl
no_repair (ToStep (Ran n)) h = absurd cc
no_repair (ToStep Idle) h = refl
no_repair Restaggered h = refl

pub repairs_add_up : {W : Type 0} (s : MirrorState W) (e : Event) → IsReached s → repairs (next s e) ≡ repairs s + repaired_in (said s e)
unfolding answers repairs_in
repairs_add_up {W} s e here =
    elim (changes s e) as (λ v. changes s e ≡ v → repairs (next s e) ≡ repairs s + repaired_in (said s e)) [
      | true ↦ λ h.
          let grown : (next s e).history ≡ s.history ++ e ∷ [] = rw h at (history-next s e) in
          ap (λ (es : List Event). repairs_in (answers (first_state (next s e)) es)) grown
          ∙ ap (λ (t : MirrorState W). repairs_in (answers t (s.history ++ e ∷ []))) (first-next s e)
          ∙ ap repairs_in (answers-append (first_state s) s.history (e ∷ []))
          ∙ repairs_in-append (answers (first_state s) s.history) (answers (after (first_state s) s.history) (e ∷ []))
          ∙ ap (λ (r : Reply). repairs s + (repaired_in r + 0)) (reached-said s e here)
          ∙ omega arith
      | false ↦ λ h. ap (λ (t : MirrorState W). repairs t) (unchanged-next s e h) ∙ (let k = no_repair (said s e) h in omega arith)
    ]
    refl

-- ---- what a history says, with the room

-- an arrival that changes the state spends one of the room for arrivals, and nothing else does
pub spare-next : {W : Type 0} (s : MirrorState W) (e : Event) → (next s e).spare ≡ s.spare - cond (is_arrival e && changes s e) 1 0
spare-next s Tick = tick-cases s (λ t r. t.spare ≡ s.spare - cond (is_arrival Tick && is_change r) 1 0) (λ e. omega arith) (λ e. omega arith)
spare-next s (Arrive x) = arrive-cases s x (λ t r. t.spare ≡ s.spare - cond (is_arrival (Arrive x) && is_change r) 1 0) (λ e. omega arith) (λ e l. omega arith) (λ e l. omega arith)
spare-next s (Step c) = step-cases s c (λ t r. t.spare ≡ s.spare - cond (is_arrival (Step c) && is_change r) 1 0) (λ e. omega arith) (λ e. omega arith)
spare-next s (Restagger p) = restagger-cases s p (λ t r. t.spare ≡ s.spare - cond (is_arrival (Restagger p) && is_change r) 1 0) (omega arith)

-- a change of the plan spends one of the room for those, and nothing else does
pub plan_spare-next : {W : Type 0} (s : MirrorState W) (e : Event) → (next s e).plan_spare ≡ s.plan_spare - cond (is_restagger e) 1 0
plan_spare-next s Tick = tick-cases s (λ t r. t.plan_spare ≡ s.plan_spare - 0) (λ e. omega arith) (λ e. omega arith)
plan_spare-next s (Arrive x) = arrive-cases s x (λ t r. t.plan_spare ≡ s.plan_spare - 0) (λ e. omega arith) (λ e l. omega arith) (λ e l. omega arith)
plan_spare-next s (Step c) = step-cases s c (λ t r. t.plan_spare ≡ s.plan_spare - 0) (λ e. omega arith) (λ e. omega arith)
plan_spare-next s (Restagger p) = restagger-cases s p (λ t r. t.plan_spare ≡ s.plan_spare - 1) refl

one-more : (p : Event → Bool) (h : List Event) (e : Event) → times p (h ++ e ∷ []) ≡ times p h + cond (p e) 1 0
unfolding times
one-more p h e = omega (arith, times-append p h (e ∷ []))

room-sum :
    {W : Type 0} (s : MirrorState W) (e : Event) → HasRoom s e → (spare arrivals before plan_spare plans plans_before : ℕ)
    → spare ≡ s.spare - cond (is_arrival e && true) 1 0 → arrivals ≡ before + cond (is_arrival e) 1 0
    → plan_spare ≡ s.plan_spare - cond (is_restagger e) 1 0 → plans ≡ plans_before + cond (is_restagger e) 1 0
    → (spare + arrivals ≡ s.spare + before) × (plan_spare + plans ≡ s.plan_spare + plans_before)
room-sum s Tick room spare arrivals before plan_spare plans plans_before h k l m = (omega arith, omega arith)
room-sum s (Arrive x) room spare arrivals before plan_spare plans plans_before h k l m = (omega arith, omega arith)
room-sum s (Step c) room spare arrivals before plan_spare plans plans_before h k l m = (omega arith, omega arith)
room-sum s (Restagger p) room spare arrivals before plan_spare plans plans_before h k l m = (omega arith, omega arith)

-- an event that finds room and changes the state leaves the state that the mirror began with
pub opening_of-next : {W : Type 0} (s : MirrorState W) (e : Event) → HasRoom s e → changes s e ≡ true → opening_of (next s e) ≡ opening_of s
opening_of-next s e room h =
    let same = next-fixed s e in
    let grown : (next s e).history ≡ s.history ++ e ∷ [] = rw h at (history-next s e) in
    let spent : (next s e).spare ≡ s.spare - cond (is_arrival e && true) 1 0 = rw h at (spare-next s e) in
    let sum = room-sum s e room (next s e).spare (times is_arrival (next s e).history) (times is_arrival s.history)
    (next s e).plan_spare (times is_restagger (next s e).history) (times is_restagger s.history)
    spent (ap (times is_arrival) grown ∙ one-more is_arrival s.history e)
    (plan_spare-next s e) (ap (times is_restagger) grown ∙ one-more is_restagger s.history e) in
    λ i. opening_state (same.opening i) (same.length i) (same.plans i) (sum.0 i) (sum.1 i)

-- an event that finds room leaves a state that its history leads to
pub from_history_kept : {W : Type 0} (s : MirrorState W) (e : Event) → HasRoom s e → IsFromHistory s → IsFromHistory (next s e)
unfolding after
from_history_kept {W} s e room here =
    by-history s e (λ t h. t ≡ after (opening_state t.opening t.length t.plans (t.spare + times is_arrival h) (t.plan_spare + times is_restagger h)) h)
    (λ h.
    let grown : (next s e).history ≡ s.history ++ e ∷ [] = rw h at (history-next s e) in
    ap (λ (t : MirrorState W). next t e) here
    ∙ sym (after-append (opening_of s) s.history (e ∷ []))
    ∙ ap (λ (t : MirrorState W). after t (s.history ++ e ∷ [])) (sym (opening_of-next s e room h))
    ∙ ap (λ (es : List Event). after (opening_state (next s e).opening (next s e).length (next s e).plans
    ((next s e).spare + times is_arrival es) ((next s e).plan_spare + times is_restagger es))
    (s.history ++ e ∷ [])) grown)
    here

pub from_history-after : {W : Type 0} (es : List Event) (s : MirrorState W) → HasRoomAlong s es → IsFromHistory s → IsFromHistory (after s es)
unfolding after HasRoomAlong
from_history-after [] s room here = here
from_history-after (e ∷ es) s room here = from_history-after es (next s e) room.1 (from_history_kept s e room.0 here)

pub opening_from_history :
    {W : Type 0} (opening : W) (length : ℕ) (plans : List (List ℕ)) (spare plan_spare : ℕ) → IsFromHistory (opening_state opening length plans spare plan_spare)
unfolding after times
opening_from_history opening length plans spare plan_spare =
    let a : spare ≡ spare + 0 = omega arith in
    let b : plan_spare ≡ plan_spare + 0 = omega arith in
    λ i. opening_state opening length plans (a i) (b i)

-- with its room, and so without it
pub from_history_reached : {W : Type 0} (s : MirrorState W) → IsFromHistory s → IsReached s
from_history_reached {W} s here =
    ap (λ (t : MirrorState W). without_room t) here ∙ after-same s.history (opening_of s) (first_state s) refl
