-- A mirror to which commands come in time: how it stands from tick to tick.
use Rattle.std.proofs.Common.{◌≡◌, ℕ, zero, suc, ◌+◌, ◌-◌, ◌≤◌, ◌<◌, false, List, [], ◌∷◌, ◌++◌, map, refl, sym, ap, subst, ◌∙◌, append_assoc, arith}
use Rattle.std.specs.List.{AllByRecursion, AllZip, list_any}
use Rattle.std.proofs.lemmas.Bool.Decides.{nat_tests}
use Rattle.std.proofs.lemmas.List.{append-nil}
use Rattle.std.proofs.lemmas.List.Folds.{list_any-append}
use Rattle.game_trait.specs.declared.command.Command.{Command}
use Rattle.game_trait.specs.declared.command.Item.{Item}
use Rattle.game_trait.specs.declared.event.Event.{Event}
use Rattle.game_trait.specs.declared.event.Event.TheVariants.{Tick, Arrive, Step}
use Rattle.game_trait.specs.Events.{is_restagger}
use Rattle.game_trait.specs.Run.{beats}
use Rattle.game_trait.specs.Keys.{same_name, NamesDiffer}
use Rattle.sync_model.specs.Lists.{last_of}
use Rattle.sync_model.specs.State.{MirrorState, delays_of, last_clock, opening_state}
use Rattle.sync_model.specs.Change.{next, after, is_over, is_repeat, is_late}
use Rattle.sync_model.specs.Staggered.{IsStaggered, IsUnchangedPlan}
use Rattle.sync_model.specs.Turns.{turn_events}
use Rattle.sync_model.proofs.Cases.{moved, taken, tick-cases, arrive-cases, step-cases, next-fixed}
use Rattle.sync_model.proofs.Staggered.{staggered-tick, staggered-arrive, staggered-step, opening_staggered}
use Rattle.sync_model.proofs.Along.{steps-keep}
use Rattle.sync_model.proofs.Drain.{delays-next}
use Rattle.sync_model.proofs.History.{after-append}
use Rattle.match_maker.specs.Below.{joined_below}
use Rattle.soak.specs.Soak.{fed_in, fed_until, events_until}
use Rattle.soak.proofs.Arriving.{ComesInTime, fed-in_time, NamesDiffer-fed, new-name}

-- the delays of the match
abbrev pub the_delays : List ℕ
the_delays = 0 ∷ 4 ∷ 8 ∷ 16 ∷ 32 ∷ []

-- a mirror after a number of ticks, which accepted these commands and turned none away
pub record IsFed {W : Type 0} (s : MirrorState W) (tick : ℕ) (fed : List Command) : Type 0 where
  pub staggered : IsStaggered s
  pub unchanged : IsUnchangedPlan s
  pub clock : s.clock ≡ tick
  pub accepted : s.accepted ≡ fed
  pub turned : s.turned ≡ []
  pub ticks : s.length ≡ 512
  pub delays : delays_of s ≡ the_delays

-- ---- the last copy

-- the last of two lists
last-zip : (n : ℕ) (runs : List (List Item)) (delays : List ℕ) (run : List Item) (delay : ℕ) → beats run ≤ n - delay
    → AllZip (λ r d. beats r ≤ n - d) runs delays → beats (last_of run runs) ≤ n - last_of delay delays
unfolding last_of
last-zip n [] [] run delay h z = h
last-zip n [] (d ∷ delays) run delay h z = absurd z
last-zip n (r ∷ runs) [] run delay h z = absurd z
last-zip n (r ∷ runs) (d ∷ delays) run delay h z = last-zip n runs delays r d z.0 z.1

none-ran : (n : ℕ) → beats [] ≤ n - 0
unfolding beats
none-ran n = omega arith

-- it stands 32 ticks behind the clock or more
last-behind : {W : Type 0} (s : MirrorState W) (tick : ℕ) (fed : List Command) → IsFed s tick fed → last_clock s.runs ≤ tick - 32
unfolding last_of
last-behind s tick fed h =
    let z = subst (AllZip (λ r d. beats r ≤ s.clock - d) s.runs) h.delays (h.staggered.in_bounds.behind_delays h.unchanged) in
    let l : beats (last_of [] s.runs) ≤ s.clock - 32 = last-zip s.clock s.runs the_delays [] 0 (none-ran s.clock) z in
    omega (arith, l, h.clock)

-- ---- an arrival in time

in_time : {W : Type 0} (s : MirrorState W) (tick : ℕ) (fed : List Command) (x : Command) → IsFed s tick fed → ComesInTime tick x
    → is_late s x ≡ false
in_time s tick fed x h c =
    let l = last-behind s tick fed h in
    let t = c.late in
    let e : last_clock s.runs ≤ x.time = omega (arith, l, t) in
    grind (arith, nat_tests)

is-taken : {W : Type 0} (s : MirrorState W) (x : Command) → is_repeat s x ≡ false → is_late s x ≡ false → next s (Arrive x) ≡ taken s x
is-taken s x new early =
    arrive-cases s x (λ t r. t ≡ taken s x)
    (λ e. absurd (let k = sym new ∙ e in cc))
    (λ e l. absurd (let k = sym early ∙ l in cc))
    (λ e l. refl)

-- one more event that changes no plan
unchanged-more : (history : List Event) (e : Event) → list_any is_restagger history ≡ false → is_restagger e ≡ false
    → list_any is_restagger (history ++ e ∷ []) ≡ false
unchanged-more history e h k = list_any-append is_restagger history (e ∷ []) ∙ rw (h, k) refl

IsFed-arrive : {W : Type 0} (s : MirrorState W) (tick : ℕ) (fed : List Command) (x : Command) → IsFed s tick fed → ComesInTime tick x
    → list_any (same_name x) fed ≡ false → IsFed (next s (Arrive x)) tick (fed ++ x ∷ [])
IsFed-arrive s tick fed x h c new =
    let e = is-taken s x (ap (list_any (same_name x)) h.accepted ∙ new) (in_time s tick fed x h c) in
    let due : x.time < s.length = (let t = c.due in omega (arith, t, h.ticks)) in
    record {
      staggered = staggered-arrive s x due h.staggered;
      unchanged = ap (λ t. list_any is_restagger t.history) e ∙ unchanged-more s.history (Arrive x) h.unchanged refl;
      clock = ap (λ t. t.clock) e ∙ h.clock;
      accepted = ap (λ t. t.accepted) e ∙ ap (λ xs. xs ++ x ∷ []) h.accepted;
      turned = ap (λ t. t.turned) e ∙ h.turned;
      ticks = (next-fixed s (Arrive x)).length ∙ h.ticks;
      delays = delays-next s (Arrive x) refl ∙ h.delays;
    }

-- ---- a turn

not-over : {W : Type 0} (s : MirrorState W) (tick : ℕ) (fed : List Command) → IsFed s tick fed → tick < 544 → is_over s ≡ false
unfolding last_of
not-over s tick fed h l =
    let d : last_of 0 (delays_of s) ≡ 32 = ap (last_of 0) h.delays in
    let t = h.ticks in
    let k = h.clock in
    let m : s.clock < s.length + last_of 0 (delays_of s) = omega (arith, d, t, k, l) in
    grind (arith, nat_tests)

is-moved : {W : Type 0} (s : MirrorState W) → is_over s ≡ false → next s Tick ≡ moved s
is-moved s more = tick-cases s (λ t r. t ≡ moved s) (λ e. absurd (let k = sym more ∙ e in cc)) (λ e. refl)

IsFed-tick : {W : Type 0} (s : MirrorState W) (tick : ℕ) (fed : List Command) → IsFed s tick fed → tick < 544 → IsFed (next s Tick) (tick + 1) fed
IsFed-tick s tick fed h l =
    let e = is-moved s (not-over s tick fed h l) in
    record {
      staggered = staggered-tick s h.staggered;
      unchanged = ap (λ t. list_any is_restagger t.history) e ∙ unchanged-more s.history Tick h.unchanged refl;
      clock = ap (λ t. t.clock) e ∙ ap (λ n. n + 1) h.clock;
      accepted = ap (λ t. t.accepted) e ∙ h.accepted;
      turned = ap (λ t. t.turned) e ∙ h.turned;
      ticks = (next-fixed s Tick).length ∙ h.ticks;
      delays = delays-next s Tick refl ∙ h.delays;
    }

IsFed-step : {W : Type 0} (s : MirrorState W) (tick : ℕ) (fed : List Command) (c : ℕ) → IsFed s tick fed → IsFed (next s (Step c)) tick fed
IsFed-step s tick fed c h = record {
  staggered = staggered-step s c h.staggered;
  unchanged = step-cases s c (λ t r. list_any is_restagger t.history ≡ false) (λ e. h.unchanged) (λ e. unchanged-more s.history (Step c) h.unchanged refl);
  clock = step-cases s c (λ t r. t.clock ≡ tick) (λ e. h.clock) (λ e. h.clock);
  accepted = step-cases s c (λ t r. t.accepted ≡ fed) (λ e. h.accepted) (λ e. h.accepted);
  turned = step-cases s c (λ t r. t.turned ≡ []) (λ e. h.turned) (λ e. h.turned);
  ticks = (next-fixed s (Step c)).length ∙ h.ticks;
  delays = delays-next s (Step c) refl ∙ h.delays;
}

IsFed-turn : {W : Type 0} (s : MirrorState W) (tick : ℕ) (fed : List Command) → IsFed s tick fed → tick < 544
    → IsFed (after s (turn_events 5)) (tick + 1) fed
unfolding after
IsFed-turn s tick fed h l =
    steps-keep (λ t. IsFed t (tick + 1) fed) (λ t c k. IsFed-step t (tick + 1) fed c k) 5 0 (next s Tick) (IsFed-tick s tick fed h l)

-- ---- the arrivals of a tick

IsFed-all : {W : Type 0} (xs : List Command) (s : MirrorState W) (tick : ℕ) (fed : List Command) → IsFed s tick fed
    → AllByRecursion (ComesInTime tick) xs → NamesDiffer (fed ++ xs) → IsFed (after s (map Arrive xs)) tick (fed ++ xs)
unfolding after
IsFed-all [] s tick fed h c n = subst (IsFed s tick) (sym (append-nil fed)) h
IsFed-all (x ∷ xs) s tick fed h c n =
    let e = append_assoc fed (x ∷ []) xs in
    subst (IsFed (after (next s (Arrive x)) (map Arrive xs)) tick) e
    (IsFed-all xs (next s (Arrive x)) tick (fed ++ x ∷ [])
    (IsFed-arrive s tick fed x h c.0 (new-name fed x xs n)) c.1 (subst NamesDiffer (sym e) n))

-- ---- all ticks

IsFed-until : {W : Type 0} (s : MirrorState W) (seed mirror : ℕ) → IsFed s 0 []
    → (ticks : ℕ) → ticks ≤ 544 → IsFed (after s (events_until seed mirror ticks)) ticks (fed_until seed mirror ticks)
unfolding joined_below after
IsFed-until s seed mirror h zero l = h
IsFed-until {W} s seed mirror h (suc n) l =
    let before = IsFed-until s seed mirror h n (omega (arith, l)) in
    let arrivals = IsFed-all (fed_in seed mirror n) (after s (events_until seed mirror n)) n (fed_until seed mirror n) before
    (fed-in_time seed mirror n) (NamesDiffer-fed seed mirror (suc n) l) in
    let turned = IsFed-turn _ n _ arrivals (omega (arith, l)) in
    let e : n + 1 ≡ suc n = omega arith in
    let start = after s (events_until seed mirror n) in
    let fed = fed_until seed mirror n ++ fed_in seed mirror n in
    let all : after s (events_until seed mirror n ++ (map Arrive (fed_in seed mirror n) ++ turn_events 5))
    ≡ after (after start (map Arrive (fed_in seed mirror n))) (turn_events 5) =
    after-append s (events_until seed mirror n) (map Arrive (fed_in seed mirror n) ++ turn_events 5)
    ∙ after-append start (map Arrive (fed_in seed mirror n)) (turn_events 5) in
    subst (λ (t : MirrorState W). IsFed t (suc n) fed) (sym all)
    (subst (λ (m : ℕ). IsFed (after (after start (map Arrive (fed_in seed mirror n))) (turn_events 5)) m fed) e turned)

pub IsFed-opening : {W : Type 0} (opening : W) (spare plan_spare : ℕ) → IsFed (opening_state opening 512 (the_delays ∷ []) spare plan_spare) 0 []
IsFed-opening opening spare plan_spare = record {
  staggered = opening_staggered opening 512 (the_delays ∷ []) spare plan_spare;
  unchanged = refl;
  clock = refl;
  accepted = refl;
  turned = refl;
  ticks = refl;
  delays = refl;
}

-- a mirror of the match after its script
pub IsFed-script : {W : Type 0} (opening : W) (seed mirror spare plan_spare : ℕ)
    → IsFed (after (opening_state opening 512 (the_delays ∷ []) spare plan_spare) (events_until seed mirror 544)) 544 (fed_until seed mirror 544)
IsFed-script opening seed mirror spare plan_spare =
    IsFed-until (opening_state opening 512 (the_delays ∷ []) spare plan_spare) seed mirror (IsFed-opening opening spare plan_spare) 544 (omega arith)
