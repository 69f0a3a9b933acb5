-- The history of a locked mirror: what its feeder asked is what it holds beside steps, and its clock is the feeder's own.
use Rattle.std.proofs.Common.{◌≡◌, ◌≢◌, ℕ, ◌+◌, ◌≤◌, true, false, cond, List, [], ◌∷◌, ◌++◌, refl, ap, sym, ◌∙◌, subst, append_assoc, arith}
use Rattle.std.specs.Prelude.{◌==◌}
use Rattle.std.specs.List.{AllByRecursion}
use Rattle.std.proofs.lemmas.Bool.Decides.{nat_tests}
use Rattle.game_trait.specs.declared.command.Command.{Command}
use Rattle.game_trait.specs.declared.event.Event.{Event}
use Rattle.game_trait.specs.declared.event.Event.TheVariants.{Tick, Arrive, Step, Restagger}
use Rattle.game_trait.specs.declared.event.Reply.{Reply}
use Rattle.game_trait.specs.declared.event.Reply.TheVariants.{Tick as ToTick, Arrive as ToArrive, Step as ToStep, Restaggered}
use Rattle.game_trait.specs.Count.{times}
use Rattle.game_trait.specs.Run.{same_command}
use Rattle.game_trait.proofs.Counts.{times-append}
use Rattle.game_trait.proofs.KeyOrder.{all-weaker}
use Rattle.sync_model.specs.State.{MirrorState, delays_of}
use Rattle.sync_model.specs.Change.{next, Fits}
use Rattle.sync_model.proofs.Along.{fitted-next}
use Rattle.sync_model.proofs.Drain.{delays-next}
use Rattle.sync_model.proofs.History.{answers_in_kind, clock-next}
use Rattle.copy_workers.specs.declared.post.Asked.{Asked}
use Rattle.copy_workers.specs.Asking.{pair_of, arrival, IsFeeding, moves_in, arrivals_of}
use Rattle.race_hall.specs.Entries.{Entry, pairs_of, own, events_asked, AreAnswersOf, IsStepping, is_feeding, feeding_of, commands_asked, IsInTime, AllInTime}
use Rattle.sync_model.specs.Schedule.{longest_delay}
use Rattle.game_trait.specs.Events.{is_restagger, is_moved, IsOfKind}

-- what is sound is of its kind, and fits from the start
pub sound-kinds : {W : Type 0} (H : List Asked) (s : MirrorState W) → AreAnswersOf s H → AllByRecursion (λ p. IsOfKind p.event p.reply) H
unfolding AreAnswersOf
sound-kinds [] s h = tt
sound-kinds (p ∷ H) s h = (subst (IsOfKind p.event) (sym h.1) (answers_in_kind s p.event), sound-kinds H (next s p.event) h.2)

pub sound-fits : {W : Type 0} (H : List Asked) (s : MirrorState W) → AreAnswersOf s H → AllByRecursion (Fits s) (events_asked H)
unfolding AreAnswersOf
sound-fits [] s h = tt
sound-fits (p ∷ H) s h = (h.0, all-weaker (Fits (next s p.event)) (Fits s) (events_asked H) (λ f k. fitted-next s p.event f k) (sound-fits H (next s p.event) h.2))

-- the pairs of one seat, where the others made steps alone
seat-rest : (P : Asked → Type 0) (i : ℕ) (e : Entry) (rest : List Entry) → AllByRecursion P (own i (e ∷ rest)) → AllByRecursion P (own i rest)
unfolding own
seat-rest P i e rest h =
    elim (e.seat == i) as (λ v. AllByRecursion P (cond v (e.pair ∷ own i rest) (own i rest)) → AllByRecursion P (own i rest)) [ true ↦ λ k. k.1 | false ↦ λ k. k ] h

seat-first : (P : Asked → Type 0) (i : ℕ) (e : Entry) (rest : List Entry) → (e.seat == i) ≡ true → AllByRecursion P (own i (e ∷ rest)) → P e.pair
unfolding own
seat-first P i e rest same h = (let k : AllByRecursion P (e.pair ∷ own i rest) = rw same at h in k.0)

feeds-true : (e : Event) → IsFeeding e → is_feeding e ≡ true
feeds-true Tick h = refl
feeds-true (Arrive x) h = refl
feeds-true (Step c) h = absurd h
feeds-true (Restagger p) h = absurd h

steps-false : (e : Event) → IsStepping e → is_feeding e ≡ false
steps-false Tick h = absurd h
steps-false (Arrive x) h = absurd h
steps-false (Step c) h = refl
steps-false (Restagger p) h = absurd h

pub seat-feeds :
    (seat : ℕ) (H : List Entry) → AllByRecursion (λ p. IsFeeding p.event) (own seat H)
    → ((i : ℕ) → i ≢ seat → AllByRecursion (λ p. IsStepping p.event) (own i H)) → feeding_of (pairs_of H) ≡ own seat H
unfolding own
seat-feeds seat [] feeds steps = refl
seat-feeds seat (e ∷ H) feeds steps =
    let later = seat-feeds seat H (seat-rest (λ p. IsFeeding p.event) seat e H feeds) (λ i differ. seat-rest (λ p. IsStepping p.event) i e H (steps i differ)) in
    elim (e.seat == seat) as (λ v. (e.seat == seat) ≡ v → feeding_of (pairs_of (e ∷ H)) ≡ cond v (e.pair ∷ own seat H) (own seat H)) [
      | true ↦ λ same.
          let f = feeds-true e.pair.event (seat-first (λ p. IsFeeding p.event) seat e H same feeds) in
          rw f (ap (λ (l : List Asked). e.pair ∷ l) later)
      | false ↦ λ same.
          let differ : e.seat ≢ seat = grind (arith, nat_tests) in
          let here : (e.seat == e.seat) ≡ true = grind (arith, nat_tests) in
          let f = steps-false e.pair.event (seat-first (λ p. IsStepping p.event) e.seat e H here (steps e.seat differ)) in
          rw f later
    ]
    refl

-- a step never moves the clock: the clock at any place is that of the feeder's own pairs before it
step-still : (r : Reply) (c : ℕ) → IsOfKind (Step c) r → is_moved r ≡ false
step-still (ToTick t) c h = absurd h
step-still (ToArrive a) c h = absurd h
step-still (ToStep s) c h = refl
step-still Restaggered c h = absurd h

plan-still : (r : Reply) (p : ℕ) → IsOfKind (Restagger p) r → is_moved r ≡ false
plan-still (ToTick t) p h = absurd h
plan-still (ToArrive a) p h = absurd h
plan-still (ToStep s) p h = absurd h
plan-still Restaggered p h = refl

moves-one : (e : Event) (r : Reply) (H : List Asked) → IsOfKind e r → moves_in (feeding_of H) ≡ moves_in H → moves_in (feeding_of (pair_of e r ∷ H)) ≡ moves_in (pair_of e r ∷ H)
unfolding times
moves-one Tick r H kind later = omega (arith, later)
moves-one (Arrive x) r H kind later = omega (arith, later)
moves-one (Step c) r H kind later = (let e = step-still r c kind in rw e (omega (arith, later)))
moves-one (Restagger p) r H kind later = (let e = plan-still r p kind in rw e (omega (arith, later)))

pub moves-feeding : (H : List Asked) → AllByRecursion (λ p. IsOfKind p.event p.reply) H → moves_in (feeding_of H) ≡ moves_in H
moves-feeding [] kinds = refl
moves-feeding (p ∷ H) kinds = moves-one p.event p.reply H kinds.0 (moves-feeding H kinds.1)

asked-one : (e : Event) (r : Reply) (H : List Asked) → commands_asked (events_asked (feeding_of H)) ≡ commands_asked (events_asked H)
    → commands_asked (events_asked (feeding_of (pair_of e r ∷ H))) ≡ commands_asked (events_asked (pair_of e r ∷ H))
unfolding commands_asked
asked-one Tick r H later = later
asked-one (Arrive x) r H later = ap (λ (l : List Command). x ∷ l) later
asked-one (Step c) r H later = later
asked-one (Restagger p) r H later = later

pub asked-feeding : (H : List Asked) → commands_asked (events_asked (feeding_of H)) ≡ commands_asked (events_asked H)
asked-feeding [] = refl
asked-feeding (p ∷ H) = asked-one p.event p.reply H (asked-feeding H)

-- the number of arrivals is the number of commands that were asked
count-one : (x : Command) (e : Event) (r : Reply) (H : List Asked) → arrivals_of x H ≡ times (same_command x) (commands_asked (events_asked H))
    → arrivals_of x (pair_of e r ∷ H) ≡ times (same_command x) (commands_asked (events_asked (pair_of e r ∷ H)))
unfolding commands_asked times
count-one x Tick r H later = omega (arith, later)
count-one x (Arrive y) r H later = omega (arith, later)
count-one x (Step c) r H later = omega (arith, later)
count-one x (Restagger p) r H later = omega (arith, later)

pub arrivals-asked : (x : Command) (H : List Asked) → arrivals_of x H ≡ times (same_command x) (commands_asked (events_asked H))
unfolding commands_asked times
arrivals-asked x [] = refl
arrivals-asked x (p ∷ H) = count-one x p.event p.reply H (arrivals-asked x H)

-- no pair changes the plan, since a feeder and copies' workers never ask that
feeds-keep : (e : Event) → IsFeeding e → is_restagger e ≡ false
feeds-keep Tick h = refl
feeds-keep (Arrive x) h = refl
feeds-keep (Step c) h = absurd h
feeds-keep (Restagger p) h = absurd h

steps-keep : (e : Event) → IsStepping e → is_restagger e ≡ false
steps-keep Tick h = absurd h
steps-keep (Arrive x) h = absurd h
steps-keep (Step c) h = refl
steps-keep (Restagger p) h = absurd h

pub all-keep :
    (seat : ℕ) (H : List Entry) → AllByRecursion (λ p. IsFeeding p.event) (own seat H)
    → ((i : ℕ) → i ≢ seat → AllByRecursion (λ p. IsStepping p.event) (own i H)) → AllByRecursion (λ p. is_restagger p.event ≡ false) (pairs_of H)
all-keep seat [] feeds steps = tt
all-keep seat (e ∷ H) feeds steps = (
  elim (e.seat == seat) as (λ v. (e.seat == seat) ≡ v → is_restagger e.pair.event ≡ false) [
    | true ↦ λ same. feeds-keep e.pair.event (seat-first (λ p. IsFeeding p.event) seat e H same feeds)
    | false ↦ λ same.
        (let differ : e.seat ≢ seat = grind (arith, nat_tests) in
        let here : (e.seat == e.seat) ≡ true = grind (arith, nat_tests) in
        steps-keep e.pair.event (seat-first (λ p. IsStepping p.event) e.seat e H here (steps e.seat differ)))
  ]
      refl,
  all-keep seat H (seat-rest (λ p. IsFeeding p.event) seat e H feeds) (λ i differ. seat-rest (λ p. IsStepping p.event) i e H (steps i differ)),
)

-- in time at each place, so in time along the history
in_time-event : {W : Type 0} (s : MirrorState W) (e : Event) → ((x : Command) → e ≡ Arrive x → s.clock ≤ x.time + longest_delay (delays_of s)) → is_restagger e ≡ false → IsInTime s e
in_time-event s Tick h same = tt
in_time-event s (Arrive x) h same = h x refl
in_time-event s (Step c) h same = tt
in_time-event s (Restagger p) h same = absurd cc

pub in_time-places :
    {W : Type 0} (delay : ℕ) (back front : List Asked) (s : MirrorState W) → longest_delay (delays_of s) ≡ delay → s.clock ≡ moves_in front → AreAnswersOf s back
    → ((f b : List Asked) (x : Command) (r : Reply) → front ++ back ≡ f ++ arrival x r ∷ b → moves_in f ≤ x.time + delay)
    → AllByRecursion (λ p. is_restagger p.event ≡ false) back → AllInTime s (events_asked back)
unfolding AreAnswersOf AllInTime times
in_time-places delay [] front s longest clock sound all kept = tt
in_time-places {W} delay (p ∷ back) front s longest clock sound all kept =
    let here = in_time-event s p.event (λ x h.
    let one : p ≡ arrival x p.reply = (λ i. record { event = h i; reply = p.reply }) in
    let low = all front back x p.reply (ap (λ (q : Asked). front ++ q ∷ back) one) in
    omega arith) kept.0 in
    let goes = clock-next s p.event in
    let reply = ap (λ (r : Reply). cond {A = ℕ} (is_moved r) 1 0) sound.1 in
    let count = times-append (λ (q : Asked). is_moved q.reply) front (p ∷ []) in
    let fixed : longest_delay (delays_of (next s p.event)) ≡ longest_delay (delays_of s) = ap (λ (ds : List ℕ). longest_delay ds) (delays-next s p.event kept.0) in
    let joined = append_assoc front (p ∷ []) back in (
      here,
      in_time-places delay back (front ++ p ∷ []) (next s p.event) (fixed ∙ longest) (omega (arith, clock, goes, reply, count)) sound.2
          (λ f b x r e. all f b x r (sym joined ∙ e)) kept.1,
    )
