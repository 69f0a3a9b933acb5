-- How long a history is: each event of it moved the clock, brought a command, ran a tick of a copy, or changed the plan.
use Rattle.std.proofs.Common.{◌≡◌, ℕ, zero, suc, ◌+◌, ◌*◌, ◌≤◌, ◌<◌, false, List, [], ◌∷◌, map, length, get_or, set, refl, ap, sym, subst, arith, suc-mul}
use Rattle.std.specs.List.{AllByRecursion, list_any}
use Rattle.std.proofs.lemmas.Nat.{mul-le}
use Rattle.std.proofs.lemmas.List.{length-map}
use Rattle.std.proofs.Math.ListN.{get_or-map}
use Rattle.std.proofs.Math.ListN.{length-append}
use Rattle.game_trait.specs.declared.command.Command.{Command}
use Rattle.game_trait.specs.declared.command.Item.{Item}
use Rattle.game_trait.specs.declared.event.Event.{Event}
use Rattle.game_trait.specs.declared.event.Event.TheVariants.{Tick, Arrive, Step, Restagger}
use Rattle.game_trait.specs.declared.limits.TheConstants.{LONGEST_DELAY}
use Rattle.game_trait.specs.Count.{times}
use Rattle.game_trait.specs.Events.{is_arrival, is_restagger}
use Rattle.game_trait.specs.Run.{beats}
use Rattle.game_trait.proofs.Counts.{times-append}
use Rattle.game_trait.proofs.KeyOrder.{all-weaker}
use Rattle.sync_model.specs.Lists.{last_of}
use Rattle.sync_model.specs.Schedule.{IsSchedule, longest_delay}
use Rattle.sync_model.specs.State.{MirrorState, opening_state, copy_clock}
use Rattle.sync_model.specs.Change.{next, after, Fits, turned_away}
use Rattle.sync_model.specs.History.{opening_of, IsFromHistory}
use Rattle.sync_model.specs.Legal.{NamesWhatIsThere, IsLegal}
use Rattle.sync_model.specs.Staggered.{IsStaggered, greatest_delay}
use Rattle.sync_model.proofs.Along.{staggered_along, all-fit-next}
use Rattle.sync_model.proofs.Cases.{tick-cases, arrive-cases, step-cases, restagger-cases}
use Rattle.sync_model.proofs.Trailing.{beats-step, beats-arrival}
use Rattle.sync_model.proofs.Legal.{named-fits}
use Rattle.sync_model.proofs.Staggered.{opening_staggered, below_limit}
use Rattle.match_data.specs.Data.{MatchData, IsMatch, schedule_of, all_plans}

-- numbers added up
unfoldable pub added : List ℕ → ℕ
added [] = 0
added (n ∷ ns) = n + added ns

-- the clocks of the copies
abbrev clocks_of : {W : Type 0} → MirrorState W → List ℕ
clocks_of s = map beats s.runs

-- a history's length counts what its events did
abbrev pub IsCounted : {W : Type 0} → MirrorState W → Type 0
IsCounted s =
    length s.history
    ≡ s.clock + (length s.accepted + length s.turned) + added (map beats s.runs) + times is_restagger s.history

copy_clock-is : {W : Type 0} (s : MirrorState W) (c : ℕ) → copy_clock s.runs c ≡ get_or (clocks_of s) c 0
unfolding beats
copy_clock-is s c = sym (get_or-map beats s.runs c [])

added-set : (ks : List ℕ) (c k : ℕ) → c < length ks → k ≡ get_or ks c 0 → added (set ks c (k + 1)) ≡ added ks + 1
unfolding added
added-set [] c k low here = absurd (omega arith)
added-set (j ∷ ks) zero k low here = omega (arith, here)
added-set (j ∷ ks) (suc c) k low here = omega (arith, added-set ks c k (omega arith) here)

-- one event more
counted-next : {W : Type 0} (s : MirrorState W) (e : Event) → Fits s e → IsStaggered s → IsCounted s → IsCounted (next s e)
unfolding times
counted-next s Tick fit here h =
    tick-cases s (λ t r. IsCounted t) (λ e. h)
    (λ e. (let a = length-append s.history (Tick ∷ []) in let b = times-append is_restagger s.history (Tick ∷ []) in omega (arith, h)))
counted-next s (Arrive x) fit here h =
    arrive-cases s x (λ t r. IsCounted t) (λ e. h)
    (λ e l. (let a = length-append s.history (Arrive x ∷ []) in
    let b = times-append is_restagger s.history (Arrive x ∷ []) in let d =
    length-append s.turned (turned_away s x ∷ []) in omega (arith, h)))
    (λ e l.
    (let a = length-append s.history (Arrive x ∷ []) in
    let b = times-append is_restagger s.history (Arrive x ∷ []) in
    let d = length-append s.accepted (x ∷ []) in
    let f = ap added (beats-arrival here.trailing x) in
    omega (arith, h)))
counted-next s (Step c) fit here h =
    step-cases s c (λ t r. IsCounted t) (λ e. h)
    (λ e.
    (let a = length-append s.history (Step c ∷ []) in
    let b = times-append is_restagger s.history (Step c ∷ []) in
    let d = ap added (beats-step here.trailing c (below_limit s c e).0) in
    let low : c < length (clocks_of s) = (let n = length-map s.runs beats in omega (arith, fit)) in
    let f = added-set (clocks_of s) c (copy_clock s.runs c) low (copy_clock-is s c) in
    omega (arith, h)))
counted-next s (Restagger p) fit here h =
    restagger-cases s p (λ t r. IsCounted t)
    (let a = length-append s.history (Restagger p ∷ []) in let b = times-append is_restagger s.history (Restagger p ∷ []) in omega (arith, h))

pub counted-after : {W : Type 0} (es : List Event) (s : MirrorState W) → AllByRecursion (Fits s) es → IsStaggered s → IsCounted s → IsCounted (after s es)
unfolding after
counted-after [] s fit here h = h
counted-after (e ∷ es) s fit here h =
    counted-after es (next s e) (all-fit-next s e es fit.1) (staggered_along (e ∷ []) s (fit.0, tt) here) (counted-next s e fit.0 here h)

added-none : (delays : List ℕ) → added (map beats (map (λ (d : ℕ). []) delays)) ≡ 0
unfolding added beats
added-none [] = refl
added-none (d ∷ delays) = omega (arith, added-none delays)

pub opening-counted : {W : Type 0} (opening : W) (length : ℕ) (plans : List (List ℕ)) (spare plan_spare : ℕ) → IsCounted (opening_state opening length plans spare plan_spare)
unfolding times
opening-counted opening length plans spare plan_spare = sym (omega (arith, added-none (get_or plans 0 [])))

module _
    {W : Type 0} (commands : List Command) (s : MirrorState W) (due : AllByRecursion (λ x. x.time < s.length) commands)
    (from : IsFromHistory s) (legal : IsLegal commands (opening_of s) s.history) where
  fit : AllByRecursion (Fits (opening_of s)) s.history
  fit = all-weaker (NamesWhatIsThere commands (opening_of s)) (Fits (opening_of s)) s.history (λ e h. named-fits commands (opening_of s) due e h) legal.there

  begins : IsStaggered (opening_of s)
  begins =
      opening_staggered s.opening s.length s.plans
      (s.spare + times is_arrival s.history) (s.plan_spare + times is_restagger s.history)

  counted : IsCounted (opening_of s)
  counted =
      opening-counted s.opening s.length s.plans
      (s.spare + times is_arrival s.history) (s.plan_spare + times is_restagger s.history)

  -- a state of a legal history counts it, and is staggered
  pub legal-counted : IsCounted s
  legal-counted = subst IsCounted (sym from) (counted-after s.history (opening_of s) fit begins counted)

  pub legal-in_bounds : IsStaggered s
  legal-in_bounds = subst IsStaggered (sym from) (staggered_along s.history (opening_of s) fit begins)

added-most : (n : ℕ) (runs : List (List Item)) → AllByRecursion (λ run. beats run ≤ n) runs → added (map beats runs) ≤ length runs * n
unfolding added
added-most n [] h = omega arith
added-most n (run ∷ runs) h = omega (arith, h.0, added-most n runs h.1, suc-mul (length runs) n)

-- where the plan was never changed
pub none-counted : (es : List Event) → list_any is_restagger es ≡ false → times is_restagger es ≡ 0
unfolding times
none-counted [] h = refl
none-counted (Tick ∷ es) h = omega (arith, none-counted es h)
none-counted (Arrive x ∷ es) h = omega (arith, none-counted es h)
none-counted (Step c ∷ es) h = omega (arith, none-counted es h)
none-counted (Restagger p ∷ es) h = absurd (cc h)

-- ---- the history of a mirror of a match

greatest-most : (n : ℕ) (plans : List (List ℕ)) → AllByRecursion (λ delays. longest_delay delays ≤ n) plans → greatest_delay plans ≤ n
unfolding greatest_delay
greatest-most n [] h = omega arith
greatest-most n (delays ∷ plans) h = omega (arith, h.0, greatest-most n plans h.1)

last-most : (n d : ℕ) (ds : List ℕ) → d ≤ n → AllByRecursion (λ delay. delay ≤ n) ds → last_of d ds ≤ n
unfolding last_of
last-most n d [] low h = low
last-most n d (e ∷ ds) low h = last-most n e ds h.0 h.1

-- no plan of a match has a longer delay than may be
short_plans : (m : MatchData) → IsMatch m → AllByRecursion (λ delays. longest_delay delays ≤ LONGEST_DELAY) (all_plans m)
short_plans m is = (
  last-most LONGEST_DELAY 0 m.delays (omega arith) is.delays.short_delays,
  all-weaker (λ p. IsSchedule (schedule_of m p) × (length p ≡ length m.delays)) (λ delays. longest_delay delays ≤ LONGEST_DELAY) m.plans
      (λ p h. last-most LONGEST_DELAY 0 p (omega arith) h.0.short_delays) is.plans,
)

-- ticks up to the clock's end and, for each copy, the match's length of steps; what came, and the changes of the plan
pub history-most :
    {W : Type 0} (m : MatchData) (s : MirrorState W) → IsMatch m → s.length ≡ m.length → s.plans ≡ all_plans m → length s.runs ≡ length m.delays
    → IsCounted s → IsStaggered s
    → length s.history ≤ 74752 + (length s.accepted + length s.turned) + times is_restagger s.history
history-most m s is ticks plans copies counted staggered =
    let greatest : greatest_delay s.plans ≤ LONGEST_DELAY =
    subst (λ (ps : List (List ℕ)). greatest_delay ps ≤ LONGEST_DELAY) (sym plans) (greatest-most LONGEST_DELAY (all_plans m) (short_plans m is)) in
    let long : s.length ≤ 8192 = omega (arith, ticks, is.ticks.1) in
    let few : length s.runs ≤ 8 = omega (arith, copies, is.delays.few_copies) in
    let ran = added-most s.length s.runs staggered.in_bounds.within_match in
    let steps : length s.runs * s.length ≤ 8 * 8192 = mul-le (length s.runs) s.length 8 8192 few long in
    omega (arith, counted, staggered.in_bounds.before_end, greatest, long, ran, steps)
