-- The test of a plan decides what a schedule is.
use Rattle.std.proofs.Common.{true≢false, sym, ◌≡◌, ℕ, ◌<◌, ◌≤◌, true, ltb, leb, ◌&&◌, List, [], ◌∷◌, length, refl, arith}
use Rattle.std.specs.List.{AllByRecursion}
use Rattle.std.proofs.lemmas.Bool.{ltb-true, lt-ltb, leb-true, le-leb, and_parts}
use Rattle.game_trait.specs.declared.limits.TheConstants.{LONGEST_MATCH, MOST_COPIES, LONGEST_DELAY}
use Rattle.sync_model.specs.Schedule.{IsSchedule, DelaysRise}
use Rattle.stagger_clock.specs.Rising.{rises_from, is_plan, is_length, is_schedule}

all-to : {X : Type 0} (P Q : X → Type 0) → ((x : X) → P x → Q x) → (xs : List X) → AllByRecursion P xs → AllByRecursion Q xs
all-to P Q f [] h = tt
all-to P Q f (x ∷ xs) h = (f x h.0, all-to P Q f xs h.1)

-- a test that passed
rises-all : (d : ℕ) (ds : List ℕ) → rises_from d ds ≡ true
    → AllByRecursion (λ e. d < e) ds × (DelaysRise ds × AllByRecursion (λ e. e ≤ LONGEST_DELAY) ds)
unfolding DelaysRise
rises-all d [] h = (tt, (tt, tt))
rises-all d (e ∷ ds) h =
    let parts = and_parts (ltb d e && leb e LONGEST_DELAY) (rises_from e ds) h in
    let front = and_parts (ltb d e) (leb e LONGEST_DELAY) parts.0 in
    let less = ltb-true _ _ front.0 in
    let short = leb-true _ _ front.1 in
    let rest = rises-all e ds parts.1 in
    ((less, all-to (λ f. e < f) (λ f. d < f) (λ f lt. omega arith) ds rest.0), ((rest.0, rest.1.0), (short, rest.1.1)))

plan-schedule : (ds : List ℕ) (n : ℕ) → is_plan ds ≡ true → length ds ≤ MOST_COPIES → 0 < n → n ≤ LONGEST_MATCH
    → IsSchedule (record { delays = ds; length = n })
unfolding DelaysRise
plan-schedule [] n h few some most = absurd (true≢false (sym h))
plan-schedule (d ∷ ds) n h few some most =
    let parts = and_parts (leb d LONGEST_DELAY) (rises_from d ds) h in
    let rest = rises-all d ds parts.1 in
    record {
      some_copy = omega arith;
      few_copies = few;
      delays_rise = (rest.0, rest.1.0);
      short_delays = (leb-true _ _ parts.0, rest.1.1);
      some_tick = some;
      few_ticks = most;
    }

-- a plan passes
rises-of : (d : ℕ) (ds : List ℕ) → AllByRecursion (λ e. d < e) ds → DelaysRise ds → AllByRecursion (λ e. e ≤ LONGEST_DELAY) ds → rises_from d ds ≡ true
unfolding DelaysRise
rises-of d [] above rise short = refl
rises-of d (e ∷ ds) above rise short =
    let t : ltb d e ≡ true = lt-ltb _ _ above.0 in
    let u : leb e LONGEST_DELAY ≡ true = le-leb _ _ short.0 in
    rw (t, u, rises-of e ds rise.0 rise.1 short.1) refl

schedule-plan : (ds : List ℕ) (n : ℕ) → IsSchedule (record { delays = ds; length = n }) → is_plan ds ≡ true
unfolding DelaysRise
schedule-plan [] n is = absurd (omega (arith, is.some_copy))
schedule-plan (d ∷ ds) n is =
    let u : leb d LONGEST_DELAY ≡ true = le-leb _ _ is.short_delays.0 in
    rw (u, rises-of d ds is.delays_rise.0 is.delays_rise.1 is.short_delays.1) refl

-- the test decides what a schedule is
pub is_schedule-true : (ds : List ℕ) (n : ℕ) → is_schedule ds n ≡ true → IsSchedule (record { delays = ds; length = n })
unfolding is_schedule
is_schedule-true ds n h =
    let front = and_parts (leb (length ds) MOST_COPIES) (is_plan ds && is_length n) h in
    let back = and_parts (is_plan ds) (is_length n) front.1 in
    let long = and_parts (ltb 0 n) (leb n LONGEST_MATCH) back.1 in
    plan-schedule ds n back.0 (leb-true _ _ front.0) (ltb-true _ _ long.0) (leb-true _ _ long.1)

pub is_schedule-of : (ds : List ℕ) (n : ℕ) → IsSchedule (record { delays = ds; length = n }) → is_schedule ds n ≡ true
unfolding is_schedule
is_schedule-of ds n is =
    let a : leb (length ds) MOST_COPIES ≡ true = le-leb _ _ is.few_copies in
    let b : ltb 0 n ≡ true = lt-ltb _ _ is.some_tick in
    let c : leb n LONGEST_MATCH ≡ true = le-leb _ _ is.few_ticks in
    rw (a, schedule-plan ds n is, b, c) refl

pub ruleset schedules = (is_schedule-true, is_schedule-of)
