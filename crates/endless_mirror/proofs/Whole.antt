-- A request beside the mirror that remembers the whole session.
use Rattle.std.proofs.Common.{◌≡◌, ℕ, ◌+◌, ◌-◌, ◌^◌, ◌≤◌, ◌<◌, Bool, true, false, cond, ◌&&◌, ◌||◌, eqb, leb, ltb, [], ◌∷◌, length, refl, sym, subst, arith, ⊎_elim}
use Rattle.std.specs.Prelude.{IfSome}
use Rattle.std.proofs.lemmas.Bool.Decides.{nat_tests}
use Rattle.game_trait.specs.declared.command.Command.{Command}
use Rattle.game_trait.specs.declared.event.Event.TheVariants as events
use Rattle.game_trait.specs.declared.event.Ticked.TheVariants.{Moved, Over}
use Rattle.game_trait.specs.declared.event.Reply.TheVariants.{Tick as ToTick, Arrive as ToArrive}
use Rattle.game_trait.specs.Game.{Rules}
use Rattle.game_trait.specs.Later.{later_event}
use Rattle.game_trait.specs.Run.{beats}
use Rattle.sync_model.specs.State.{MirrorState, last_clock}
use Rattle.sync_model.specs.Change.{next, said, after, answers}
use Rattle.sync_model.specs.Turns.{steps_from, turn_events}
use Rattle.sync_model.proofs.Forgetting.{as-many}
use Rattle.sync_model.proofs.Forgotten.{last-all}
use Rattle.live_text.specs.Requests.{FitsTerms}
use Rattle.live_text.specs.declared.request.Request.{Request}
use Rattle.live_text.specs.declared.request.Request.TheVariants.{Own, Cmd, Tick, Turn, Step, Restagger, World, Run, Commands, End}
use Rattle.rolling_mirror.specs.declared.arrival.Arrival.{Arrival}
use Rattle.rolling_mirror.specs.declared.arrival.Arrival.TheVariants.{Taken, Repeat, Late, Far, Full}
use Rattle.rolling_mirror.specs.Rolling.{RollState, IsWindowOf, left_after, rolled, forgets, ready, is_held, ticked, turned, said_to_turn, said_to_tick, said_to_arrival, arrived, as_arrived}
use Rattle.rolling_mirror.proofs.Windows.{after-tick, event-window, tick-window, restagger-window, rolled-window}
use Rattle.sync_model.specs.Forgetting.{arrive_from, said_from}
use Rattle.rolling_mirror.proofs.Arrivals.{arrival-window, passed-window, exact-window}
use Rattle.rolling_mirror.proofs.Turns.{turn-window, over-window}
use Rattle.endless_mirror.specs.Session.{SessionState, terms_of, is_past, own_command, arrive, mirror_after, after_request}
use Rattle.endless_mirror.specs.Stands.{Stands, arrival_made, events_made, IsKnown, BringsKnown, arrived_from, whole_after}

-- a clock that isn't held, after and without forgetting
rolled-room :
    (clock window k keep spare : ℕ) (last : Bool) → k ≤ clock → clock < window → ltb 0 k && (leb keep k || (eqb (clock + 1) window || eqb spare 0)) ≡ true
    → (clock - k) + 1 < window
rolled-room clock window k keep spare last behind within e = grind (arith, nat_tests)

still-room :
    (clock window k keep spare : ℕ) (last : Bool) → k ≤ clock → clock < window → ltb 0 k && (leb keep k || (eqb (clock + 1) window || eqb spare 0)) ≡ false
    → (eqb k 0 && eqb (clock + 1) window) || last ≡ false
    → clock + 1 < window
still-room clock window k keep spare last behind within e held = grind (arith, nat_tests)

module _ {W : Type 0} (rules : Rules W) (r : RollState W) (is : Stands r) (whole : MirrorState W)
    (h : IsWindowOf rules whole r) (before : whole.clock + 1 < whole.length) where
  behind : last_clock r.left.runs ≤ r.left.clock
  behind = last-all (λ run. beats run ≤ r.left.clock) r.left.runs is.some_copy is.behind_clock

  ready-window : IsWindowOf rules whole (ready rules r)
  ready-window =
      elim (forgets r) as (λ v. IsWindowOf rules whole (cond v (rolled rules r) r)) [
        | true ↦ rolled-window rules r (rolled rules r) is.trailing behind refl whole h
        | false ↦ h
      ]

  ready-room : is_held r ≡ false → (ready rules r).left.clock + 1 < (ready rules r).left.length
  ready-room held =
      let within = is.within_window in
      let k = last_clock r.left.runs in
      elim (forgets r) as (λ v. forgets r ≡ v → (cond v (rolled rules r) r).left.clock + 1 < (cond v (rolled rules r) r).left.length) [
        | true ↦ λ e. rolled-room r.left.clock r.left.length k r.keep r.spare false behind within e
        | false ↦ λ e. still-room r.left.clock r.left.length k r.keep r.spare (eqb (r.base + r.left.clock) (2 ^ 32 - 1)) behind within e held
      ] refl

  moved-window : is_held r ≡ false → IsWindowOf rules (next whole events.Tick) (left_after (ready rules r) events.Tick)
  moved-window held =
      let room = ready-room held in
      (tick-window rules (ready rules r) (left_after (ready rules r) events.Tick) refl (omega arith) whole ready-window (omega arith)).0

  ticked-window : IsWindowOf rules (after whole (cond (is_held r) [] (events.Tick ∷ []))) (ticked rules r)
  unfolding after
  ticked-window =
      elim (is_held r) as (λ v. is_held r ≡ v → IsWindowOf rules (after whole (cond v [] (events.Tick ∷ []))) (cond v r (left_after (ready rules r) events.Tick))) [
        | true ↦ λ e. h
        | false ↦ moved-window
      ] refl

  pub ticked-within : (ticked rules r).left.clock < (ticked rules r).left.length
  ticked-within =
      elim (is_held r) as (λ v. is_held r ≡ v → (cond v r (left_after (ready rules r) events.Tick)).left.clock < (cond v r (left_after (ready rules r) events.Tick)).left.length) [
        | true ↦ λ e. is.within_window
        | false ↦ λ e.
            let room = ready-room e in
            subst (λ (t : RollState W). t.left.clock < t.left.length) (sym (after-tick (ready rules r) (omega arith))) room
      ] refl

  -- a turn whose tick moves the clock, and one whose tick doesn't
  pub went-both :
      is_held r ≡ false
      → IsWindowOf rules (after whole (turn_events (length whole.runs))) (turned rules r) × (said_to_turn rules r ≡ answers whole (turn_events (length whole.runs)))
  went-both held =
      let room = ready-room held in
      let both = tick-window rules (ready rules r) (left_after (ready rules r) events.Tick) refl (omega arith) whole ready-window (omega arith) in
      let tick : left_after (ready rules r) events.Tick ≡ ticked rules r = rw held refl in
      let moved : said_to_tick r ≡ Moved = rw held refl in
      turn-window rules r (ticked rules r) (turned rules r) refl ticked-within whole before
      (subst (IsWindowOf rules (next whole events.Tick)) tick both.0) both.1 (said_to_turn rules r) refl refl moved

  pub held-both :
      is_held r ≡ true
      → IsWindowOf rules (after whole (steps_from 0 (length whole.runs))) (turned rules r)
      × (said_to_turn rules r ≡ ToTick Over ∷ answers whole (steps_from 0 (length whole.runs)))
  held-both held =
      let over : said_to_tick r ≡ Over = rw held refl in
      over-window rules r (ticked rules r) (turned rules r) refl ticked-within whole h (omega arith) (said_to_turn rules r) refl refl over

  turned-window : IsWindowOf rules (after whole (cond (is_held r) (steps_from 0 (length whole.runs)) (turn_events (length whole.runs)))) (turned rules r)
  turned-window =
      elim (is_held r) as (λ v. is_held r ≡ v → IsWindowOf rules (after whole (cond v (steps_from 0 (length whole.runs)) (turn_events (length whole.runs)))) (turned rules r)) [
        | true ↦ λ e. (held-both e).0
        | false ↦ λ e. (went-both e).0
      ] refl

  -- a step of a copy that is there
  stepped-window : (c : ℕ) → c ≤ length r.left.runs - 1 → IsWindowOf rules (next whole (events.Step c)) (left_after r (events.Step c))
  unfolding later_event
  stepped-window c fits =
      let many = as-many rules r.base whole r.left h in
      let some = is.some_copy in
      (event-window rules r (left_after r (events.Step c)) (events.Step c) refl is.within_window whole h (omega arith) (omega arith)).0

  -- a command
  module _ (x : Command) where
    abbrev Answers : Arrival → Type 0
    Answers a =
        IfSome (as_arrived a)
        (λ answer. IsWindowOf rules (next whole (events.Arrive x)) (arrived r x a) × (said whole (events.Arrive x) ≡ ToArrive answer))

    in-window : (a : Arrival) → Answers a → IsWindowOf rules (after whole (arrival_made x a)) (arrived r x a)
    unfolding after
    in-window (Taken repaired) k = k.0
    in-window Repeat k = k.0
    in-window (Late bound) k = k.0
    in-window (Far end) k = h
    in-window Full k = h

    gone-window : (a : Arrival) → IsWindowOf rules (next whole (events.Arrive x)) (arrived r x a) → IsWindowOf rules (after whole (arrival_made x a)) (arrived r x a)
    unfolding after
    gone-window (Taken repaired) k = k
    gone-window Repeat k = k
    gone-window (Late bound) k = k
    gone-window (Far end) k = h
    gone-window Full k = h

    abbrev AnswersFrom : Arrival → Type 0
    AnswersFrom a =
        IfSome (as_arrived a)
        (λ answer. IsWindowOf rules (arrive_from r.base whole x) (arrived r x a) × (said_from r.base whole x ≡ ToArrive answer))

    from-window : (a : Arrival) → AnswersFrom a → IsWindowOf rules (arrived_from r.base whole x a) (arrived r x a)
    from-window (Taken repaired) k = k.0
    from-window Repeat k = k.0
    from-window (Late bound) k = k.0
    from-window (Far end) k = h
    from-window Full k = h

    arrive-from : IsWindowOf rules (arrived_from r.base whole x (said_to_arrival r x)) (arrive r x)
    arrive-from =
        let a = said_to_arrival r x in
        from-window a (exact-window rules r x is.within_window whole h (omega arith) (arrived r x a) a refl refl)

    arrive-window : IsKnown whole r x → IsWindowOf rules (after whole (arrival_made x (said_to_arrival r x))) (arrive r x)
    arrive-window known =
        let a = said_to_arrival r x in
        ⊎_elim (λ new. in-window a (arrival-window rules r x is.within_window whole h (omega arith) new (arrived r x a) a refl refl))
        (λ past. gone-window a (passed-window rules r x whole h past (arrived r x a) a refl refl)) known

pub request-window :
    {W : Type 0} (rules : Rules W) (whole : MirrorState W) (s : SessionState W) (r : Request)
    → Stands s.mirror → IsWindowOf rules whole s.mirror → whole.clock + 1 < whole.length → FitsTerms (terms_of s) r → BringsKnown whole s r
    → IsWindowOf rules (after whole (events_made (length whole.runs) s r)) (after_request rules s r).mirror
unfolding mirror_after after
request-window rules whole s (Own player act) is h before fits known =
    let x = own_command s player act in
    elim (is_past s) as (λ v. IsWindowOf rules (after whole (cond v [] (arrival_made x (said_to_arrival s.mirror x)))) (cond v s.mirror (arrive s.mirror x))) [
      | true ↦ h
      | false ↦ arrive-window rules s.mirror is whole h before x known
    ]
request-window rules whole s (Cmd x) is h before fits known = arrive-window rules s.mirror is whole h before x known
request-window rules whole s Tick is h before fits known = ticked-window rules s.mirror is whole h before
request-window rules whole s Turn is h before fits known = turned-window rules s.mirror is whole h before
request-window rules whole s (Step copy) is h before fits known = stepped-window rules s.mirror is whole h before copy fits
request-window rules whole s (Restagger plan) is h before fits known =
    restagger-window rules s.mirror (left_after s.mirror (events.Restagger plan)) plan refl whole h
request-window rules whole s (World copy) is h before fits known = h
request-window rules whole s (Run copy) is h before fits known = h
request-window rules whole s Commands is h before fits known = h
request-window rules whole s End is h before fits known = h

-- whatever its name
pub request-exact :
    {W : Type 0} (rules : Rules W) (whole : MirrorState W) (s : SessionState W) (r : Request)
    → Stands s.mirror → IsWindowOf rules whole s.mirror → whole.clock + 1 < whole.length → FitsTerms (terms_of s) r
    → IsWindowOf rules (whole_after whole s r) (after_request rules s r).mirror
unfolding mirror_after whole_after after
request-exact rules whole s (Own player act) is h before fits =
    let x = own_command s player act in
    elim (is_past s) as (λ v. IsWindowOf rules (cond v whole (arrived_from s.mirror.base whole x (said_to_arrival s.mirror x))) (cond v s.mirror (arrive s.mirror x))) [
      | true ↦ h
      | false ↦ arrive-from rules s.mirror is whole h before x
    ]
request-exact rules whole s (Cmd x) is h before fits = arrive-from rules s.mirror is whole h before x
request-exact rules whole s Tick is h before fits = ticked-window rules s.mirror is whole h before
request-exact rules whole s Turn is h before fits = turned-window rules s.mirror is whole h before
request-exact rules whole s (Step copy) is h before fits = stepped-window rules s.mirror is whole h before copy fits
request-exact rules whole s (Restagger plan) is h before fits =
    restagger-window rules s.mirror (left_after s.mirror (events.Restagger plan)) plan refl whole h
request-exact rules whole s (World copy) is h before fits = h
request-exact rules whole s (Run copy) is h before fits = h
request-exact rules whole s Commands is h before fits = h
request-exact rules whole s End is h before fits = h
