-- A whole talk, beside the mirror that remembers all of it.
use Rattle.std.proofs.Common.{◌≡◌, ℕ, zero, suc, ◌+◌, ◌-◌, ◌≤◌, ◌<◌, true, false, cond, List, [], ◌∷◌, map, length, refl, ap, sym, ◌∙◌, subst, arith}
use Rattle.std.specs.List.{AllByRecursion}
use Rattle.std.proofs.lemmas.List.{length-map}
use Rattle.game_trait.specs.declared.command.Command.{Command}
use Rattle.game_trait.specs.declared.event.Event.{Event}
use Rattle.game_trait.specs.declared.event.Event.TheVariants as events
use Rattle.game_trait.specs.Game.{Rules}
use Rattle.game_trait.specs.Run.{beats}
use Rattle.sync_model.specs.Change.{next, is_late, after}
use Rattle.sync_model.specs.Forgetting.{arrive_from, is_repeat_from}
use Rattle.sync_model.specs.Schedule.{longest_delay}
use Rattle.sync_model.specs.State.{MirrorState, opening_state, last_clock}
use Rattle.sync_model.specs.TimeOrder.{KeysDiffer}
use Rattle.sync_model.specs.Turns.{steps_from, turn_events}
use Rattle.sync_model.proofs.Along.{steps-keep}
use Rattle.sync_model.proofs.Cases.{away, taken, tick-cases, arrive-cases, step-cases, next-fixed}
use Rattle.sync_model.proofs.Forgetting.{from_repeat, from_late, from_taken, last-clocks}
use Rattle.sync_model.proofs.TimeOrder.{keys-kept}
use Rattle.sync_model.proofs.Trailing.{trailing-opening}
use Rattle.match_data.specs.Data.{MatchData, IsMatch, all_plans}
use Rattle.rolling_mirror.specs.declared.arrival.Arrival.{Arrival}
use Rattle.rolling_mirror.specs.declared.arrival.Arrival.TheVariants.{Taken, Repeat, Late, Far, Full}
use Rattle.rolling_mirror.specs.Rolling.{RollState, IsWindowOf, left_after, left_after_all, rolled, forgets, ready, is_held, ticked, turned, in_window, arrived, said_to_arrival}
use Rattle.rolling_mirror.proofs.Standing.{Standing, stand-after, stand-steps, stand-arrived, stand-rolled}
use Rattle.rolling_mirror.proofs.Turns.{step-clock}
use Rattle.rolling_mirror.proofs.Windows.{opening-window}
use Rattle.live_text.specs.Requests.{FitsTerms}
use Rattle.live_text.specs.declared.request.Request.{Request}
use Rattle.live_text.specs.declared.request.Request.TheVariants.{Own, Cmd, Tick, Turn, Step, Restagger, World, Run, Commands, End}
use Rattle.endless_mirror.specs.Session.{SessionState, terms_of, is_past, own_command, arrive, mirror_after, after_request, opening_roll, opening_session}
use Rattle.endless_mirror.specs.Stands.{Stands, events_made, arrived_from, whole_after}
use Rattle.endless_mirror.specs.Talk.{after_requests, FitAlong, whole_along, opening_whole, IsWholeOf}
use Rattle.endless_mirror.proofs.Whole.{ticked-within, request-exact}

-- ---- a mirror goes on standing

module _ {W : Type 0} where
  standing : (r : RollState W) → Stands r → Standing r.left
  standing r h = record { some_copy = h.some_copy; behind_clock = h.behind_clock; trailing = h.trailing }

  stands : (r : RollState W) → r.left.clock < r.left.length → Standing r.left → Stands r
  stands r within h = record { within_window = within; some_copy = h.some_copy; behind_clock = h.behind_clock; trailing = h.trailing }

  -- arrivals and steps move neither the clock nor the window's length
  arrival-within : (s : MirrorState W) (x : Command) → s.clock < s.length → (next s (events.Arrive x)).clock < (next s (events.Arrive x)).length
  arrival-within s x h = arrive-cases s x (λ t r. t.clock < t.length) (λ e. h) (λ e l. h) (λ e l. h)

  step-within : (s : MirrorState W) (c : ℕ) → s.clock < s.length → (next s (events.Step c)).clock < (next s (events.Step c)).length
  step-within s c h = step-cases s c (λ t r. t.clock < t.length) (λ e. h) (λ e. h)

  plan-within : (s : MirrorState W) (p : ℕ) → s.clock < s.length → (next s (events.Restagger p)).clock < (next s (events.Restagger p)).length
  unfolding next
  plan-within s p h = h

  arrived-within : (r : RollState W) (x : Command) (a : Arrival) → r.left.clock < r.left.length → (arrived r x a).left.clock < (arrived r x a).left.length
  arrived-within r x (Taken repaired) h = arrival-within r.left (in_window r x) h
  arrived-within r x Repeat h = h
  arrived-within r x (Late bound) h = h
  arrived-within r x (Far end) h = h
  arrived-within r x Full h = h

  steps-within : (n c : ℕ) (r : RollState W) → r.left.clock < r.left.length → (left_after_all r (steps_from c n)).left.clock < (left_after_all r (steps_from c n)).left.length
  unfolding left_after_all steps_from
  steps-within zero c r h = h
  steps-within (suc n) c r h = steps-within n (c + 1) (left_after r (events.Step c)) (step-within r.left c h)

  arrive-stands : (r : RollState W) (x : Command) → Stands r → Stands (arrive r x)
  arrive-stands r x h =
      let a = said_to_arrival r x in
      stands (arrived r x a) (arrived-within r x a h.within_window) (stand-arrived r x a (standing r h))

  module _ (rules : Rules W) (r : RollState W) (h : Stands r) where
    ready-standing : Standing (ready rules r).left
    ready-standing = elim (forgets r) as (λ v. Standing (cond v (rolled rules r) r).left) [ true ↦ stand-rolled rules r (standing r h) | false ↦ standing r h ]

    ticked-standing : Standing (ticked rules r).left
    ticked-standing =
        elim (is_held r) as (λ v. Standing (cond v r (left_after (ready rules r) events.Tick)).left) [
          | true ↦ standing r h
          | false ↦ stand-after (ready rules r) events.Tick ready-standing
        ]

  -- what stands goes on standing
  pub request-stands :
      (rules : Rules W) (whole : MirrorState W) (s : SessionState W) (r : Request)
      → Stands s.mirror → IsWindowOf rules whole s.mirror → whole.clock + 1 < whole.length → Stands (mirror_after rules s r)
  unfolding mirror_after
  request-stands rules whole s (Own player act) is h before =
      elim (is_past s) as (λ v. Stands (cond v s.mirror (arrive s.mirror (own_command s player act)))) [ true ↦ is | false ↦ arrive-stands s.mirror (own_command s player act) is ]
  request-stands rules whole s (Cmd x) is h before = arrive-stands s.mirror x is
  request-stands rules whole s Tick is h before = stands (ticked rules s.mirror) (ticked-within rules s.mirror is whole h before) (ticked-standing rules s.mirror is)
  request-stands rules whole s Turn is h before =
      let t = ticked rules s.mirror in
      stands (turned rules s.mirror)
      (steps-within (length t.left.runs) 0 t (ticked-within rules s.mirror is whole h before))
      (stand-steps (length t.left.runs) 0 t (ticked-standing rules s.mirror is))
  request-stands rules whole s (Step copy) is h before =
      stands (left_after s.mirror (events.Step copy)) (step-within s.mirror.left copy is.within_window) (stand-after s.mirror (events.Step copy) (standing s.mirror is))
  request-stands rules whole s (Restagger plan) is h before =
      stands (left_after s.mirror (events.Restagger plan)) (plan-within s.mirror.left plan is.within_window) (stand-after s.mirror (events.Restagger plan) (standing s.mirror is))
  request-stands rules whole s (World copy) is h before = is
  request-stands rules whole s (Run copy) is h before = is
  request-stands rules whole s Commands is h before = is
  request-stands rules whole s End is h before = is

-- ---- and the mirror that remembers all goes on a tick at most, and gets no key twice

-- a mirror that has the same commands, and whose clock went on a tick at most
record GoesOn {W : Type 0} (whole t : MirrorState W) : Type 0 where
  pub accepted : t.accepted ≡ whole.accepted
  pub length_is : t.length ≡ whole.length
  pub clock : t.clock ≤ whole.clock + 1

module _ {W : Type 0} where
  event-accepted : (s : MirrorState W) (c : ℕ) → (next s (events.Step c)).accepted ≡ s.accepted
  event-accepted s c = step-cases s c (λ t r. t.accepted ≡ s.accepted) (λ e. refl) (λ e. refl)

  same-goes : (s : MirrorState W) → GoesOn s s
  same-goes s = record { accepted = refl; length_is = refl; clock = omega arith }

  tick-goes : (s : MirrorState W) → GoesOn s (next s events.Tick)
  tick-goes s = tick-cases s (λ t r. GoesOn s t) (λ e. same-goes s) (λ e. record { accepted = refl; length_is = refl; clock = omega arith })

  plan-goes : (s : MirrorState W) (p : ℕ) → GoesOn s (next s (events.Restagger p))
  unfolding next
  plan-goes s p = record { accepted = refl; length_is = refl; clock = omega arith }

  steps-go : (whole : MirrorState W) (n c : ℕ) (s : MirrorState W) → GoesOn whole s → GoesOn whole (after s (steps_from c n))
  steps-go whole n c s h =
      steps-keep (λ t. GoesOn whole t)
      (λ t c h. record {
        accepted = event-accepted t c ∙ h.accepted;
        length_is = (next-fixed t (events.Step c)).length ∙ h.length_is;
        clock = (let same = step-clock t c in let most = h.clock in omega arith);
      }) n c s h

-- what an arrival leaves
record TakesOne {W : Type 0} (whole t : MirrorState W) : Type 0 where
  pub keys : KeysDiffer t.accepted
  pub length_is : t.length ≡ whole.length
  pub clock : t.clock ≤ whole.clock + 1

module _ {W : Type 0} where
  goes-takes : (whole t : MirrorState W) → KeysDiffer whole.accepted → GoesOn whole t → TakesOne whole t
  goes-takes whole t keys h =
      record { keys = subst KeysDiffer (sym h.accepted) keys; length_is = h.length_is; clock = h.clock }

  from-length : (b : ℕ) (s : MirrorState W) (x : Command) → ((arrive_from b s x).length ≡ s.length) × ((arrive_from b s x).clock ≡ s.clock)
  unfolding arrive_from
  from-length b s x =
      elim (is_repeat_from b s x) as (λ v. ((cond v s (cond (is_late s x) (away s x) (taken s x))).length ≡ s.length) × ((cond v s (cond (is_late s x) (away s x) (taken s x))).clock ≡ s.clock)) [
        | true ↦ (refl, refl)
        | false ↦ elim (is_late s x) as (λ v. ((cond v (away s x) (taken s x)).length ≡ s.length) × ((cond v (away s x) (taken s x)).clock ≡ s.clock)) [ true ↦ (refl, refl) | false ↦ (refl, refl) ]
      ]

  arrival-takes :
      (rules : Rules W) (r : RollState W) (whole : MirrorState W) (x : Command) (a : Arrival) → IsWindowOf rules whole r → KeysDiffer whole.accepted
      → TakesOne whole (arrived_from r.base whole x a)
  arrival-takes rules r whole x a h keys = by-answer a
    where
      came : TakesOne whole (arrive_from r.base whole x)
      came =
          (let last = last-clocks rules r.base whole r.left h in
          let same = from-length r.base whole x in
          let clock = same.1 in
          record { keys = keys-kept r.base whole x (omega arith) keys; length_is = same.0; clock = omega arith })

      waits : TakesOne whole whole
      waits = goes-takes whole whole keys (same-goes whole)

      by-answer : (a : Arrival) → TakesOne whole (arrived_from r.base whole x a)
      by-answer (Taken repaired) = came
      by-answer Repeat = came
      by-answer (Late bound) = came
      by-answer (Far end) = waits
      by-answer Full = waits

  request-takes :
      (rules : Rules W) (whole : MirrorState W) (s : SessionState W) (r : Request) → IsWindowOf rules whole s.mirror → KeysDiffer whole.accepted
      → TakesOne whole (whole_after whole s r)
  unfolding whole_after after
  request-takes rules whole s (Own player act) h keys =
      let x = own_command s player act in
      elim (is_past s) as (λ v. TakesOne whole (cond v whole (arrived_from s.mirror.base whole x (said_to_arrival s.mirror x)))) [
        | true ↦ goes-takes whole whole keys (same-goes whole)
        | false ↦ arrival-takes rules s.mirror whole x (said_to_arrival s.mirror x) h keys
      ]
  request-takes rules whole s (Cmd x) h keys = arrival-takes rules s.mirror whole x (said_to_arrival s.mirror x) h keys
  request-takes rules whole s Tick h keys =
      elim (is_held s.mirror) as (λ v. TakesOne whole (after whole (cond v [] (events.Tick ∷ [])))) [
        | true ↦ goes-takes whole whole keys (same-goes whole)
        | false ↦ goes-takes whole (next whole events.Tick) keys (tick-goes whole)
      ]
  request-takes rules whole s Turn h keys =
      elim (is_held s.mirror) as (λ v. TakesOne whole (after whole (cond v (steps_from 0 (length whole.runs)) (turn_events (length whole.runs))))) [
        | true ↦ goes-takes whole _ keys (steps-go whole (length whole.runs) 0 whole (same-goes whole))
        | false ↦ goes-takes whole _ keys (steps-go whole (length whole.runs) 0 (next whole events.Tick) (tick-goes whole))
      ]
  request-takes rules whole s (Step copy) h keys = goes-takes whole (next whole (events.Step copy)) keys (record {
    accepted = event-accepted whole copy;
    length_is = (next-fixed whole (events.Step copy)).length;
    clock = (let same = step-clock whole copy in omega arith);
  })
  request-takes rules whole s (Restagger plan) h keys = goes-takes whole (next whole (events.Restagger plan)) keys (plan-goes whole plan)
  request-takes rules whole s (World copy) h keys = goes-takes whole whole keys (same-goes whole)
  request-takes rules whole s (Run copy) h keys = goes-takes whole whole keys (same-goes whole)
  request-takes rules whole s Commands h keys = goes-takes whole whole keys (same-goes whole)
  request-takes rules whole s End h keys = goes-takes whole whole keys (same-goes whole)

-- ---- a talk

module _ {W : Type 0} (rules : Rules W) where
  pub talk-whole :
      (rs : List Request) (whole : MirrorState W) (s : SessionState W)
      → Stands s.mirror → IsWindowOf rules whole s.mirror → KeysDiffer whole.accepted → FitAlong rules s rs → whole.clock + length rs + 1 < whole.length
      → IsWholeOf rules (whole_along rules whole s rs) (after_requests rules s rs)
  unfolding whole_along after_requests FitAlong
  talk-whole [] whole s is h keys fits long = record { stands = is; window = h; before_end = omega arith; keys_differ = keys }
  talk-whole (r ∷ rs) whole s is h keys fits long =
      let before : whole.clock + 1 < whole.length = omega arith in
      let one = request-takes rules whole s r h keys in
      let clock = one.clock in
      let ticks = one.length_is in
      talk-whole rs (whole_after whole s r) (after_request rules s r)
      (request-stands rules whole s r is h before) (request-exact rules whole s r is h before fits.0) one.keys fits.1 (omega arith)

  none-ahead : (delays : List ℕ) → AllByRecursion (λ run. beats run ≤ 0) (map (λ (delay : ℕ). []) delays)
  unfolding beats
  none-ahead [] = tt
  none-ahead (d ∷ ds) = (omega arith, none-ahead ds)

  -- from the opening on
  opened-stands : (opening : W) (m : MatchData) → IsMatch m → Stands (opening_roll opening m)
  opened-stands opening m is =
      let ticks = is.ticks in
      let some = is.delays.some_copy in
      let many : length (opening_roll opening m).left.runs ≡ length m.delays = length-map m.delays (λ delay. []) in
      record {
        within_window = omega arith;
        some_copy = omega arith;
        behind_clock = none-ahead m.delays;
        trailing = trailing-opening m.delays;
      }

  pub session-whole :
      (opening : W) (m : MatchData) (number n : ℕ) (rs : List Request) → IsMatch m → length rs + 1 < n → FitAlong rules (opening_session opening m number) rs
      → IsWholeOf rules (whole_along rules (opening_whole opening m n) (opening_session opening m number) rs) (after_requests rules (opening_session opening m number) rs)
  unfolding KeysDiffer
  session-whole opening m number n rs is long fits =
      let stands = opened-stands opening m is in
      talk-whole rs (opening_whole opening m n) (opening_session opening m number) stands
      (opening-window rules opening m.length n (all_plans m) 0 0 stands.some_copy) tt fits (omega arith)
