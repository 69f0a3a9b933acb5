-- States that are all but good: for each part of a definition one that breaks this part alone.
use Rattle.std.specs.Prelude.{◌≡◌, ℕ, zero, suc, ◌+◌, ◌-◌, ◌≤◌, ◌<◌, List, [], ◌∷◌, length, replicate}
use Rattle.std.specs.List.{AllByRecursion, AllZip}
use Rattle.game_trait.specs.declared.command.Command.{Command}
use Rattle.game_trait.specs.declared.command.Item.{Item}
use Rattle.game_trait.specs.declared.command.Item.TheVariants.{Cmd, Beat}
use Rattle.game_trait.specs.declared.event.Event.{Event}
use Rattle.game_trait.specs.declared.event.Event.TheVariants.{Tick, Arrive, Step, Restagger}
use Rattle.game_trait.specs.declared.limits.TheConstants.{LONGEST_MATCH, MOST_COPIES, LONGEST_DELAY, MOST_PLANS}
use Rattle.game_trait.specs.Run.{beats}
use Rattle.game_trait.specs.Keys.{NamesDiffer}
use Rattle.game_trait.specs.Ordered.{ordered}
use Rattle.sync_model.specs.Lists.{last_of}
use Rattle.sync_model.specs.Schedule.{Schedule, DelaysRise, IsSchedule}
use Rattle.sync_model.specs.State.{MirrorState, opening_state, delays_of, last_clock}
use Rattle.sync_model.specs.Staggered.{IsChained, IsComplete, IsNeverEarly, greatest_delay, IsUnchangedPlan}
use Rattle.sync_model.specs.WellFormed.{ArePlans}
use Rattle.sync_model.specs.History.{EachChanges}
use Rattle.sync_model.specs.Legal.{NamesWhatIsThere}
use Rattle.game_trait.specs.Game.{Rules}
use Rattle.game_trait.specs.Run.{world_of}
use Rattle.sync_model.specs.State.{copy_clock, step_limit}
use Rattle.sync_model.specs.Change.{with_tick, after}
use Rattle.sync_model.specs.Drafts.{run_of, epoch, ReadyTick, IsDueTick}
use Rattle.sync_model.specs.Worked.{go_first, go_at, beat}

-- all of some facts hold
unfoldable pub AllHold : List (Type 0) → Type 0
AllHold [] = Unit {0}
AllHold (fact ∷ facts) = fact × AllHold facts

-- all hold but the one of this number, of which nothing is said
unfoldable pub AllHoldBut : ℕ → List (Type 0) → Type 0
AllHoldBut n [] = Unit {0}
AllHoldBut zero (fact ∷ facts) = AllHold facts
AllHoldBut (suc n) (fact ∷ facts) = fact × AllHoldBut n facts

-- ---- a mirror

-- the parts of what is always true of it, numbered from 0 on
abbrev pub parts_of_staggered : {W : Type 0} → MirrorState W → List (Type 0)
parts_of_staggered s =
    IsChained s.runs
    ∷ AllByRecursion (IsComplete s.accepted) s.runs
    ∷ (last_of [] s.runs ≡ ordered s.accepted 0 (last_clock s.runs))
    ∷ AllByRecursion (IsNeverEarly zero) s.runs
    ∷ AllByRecursion (λ run. beats run ≤ s.length) s.runs
    ∷ AllByRecursion (λ run. beats run ≤ s.clock) s.runs
    ∷ (s.clock ≤ s.length + greatest_delay s.plans)
    ∷ (IsUnchangedPlan s → AllZip (λ run delay. beats run ≤ s.clock - delay) s.runs (delays_of s))
    ∷ NamesDiffer s.accepted
    ∷ AllByRecursion (λ x. x.time < s.length) s.accepted
    ∷ AllByRecursion (λ away. away.bound ≤ last_clock s.runs) s.turned
    ∷ []

-- a match of four ticks with two copies, one tick apart, and two ticks apart in a second plan
abbrev pub small_match : {W : Type 0} → W → MirrorState W
small_match o = opening_state o 4 ((0 ∷ 1 ∷ []) ∷ (0 ∷ 2 ∷ []) ∷ []) 8 8

-- at this clock, with these accepted commands and runs
abbrev pub small_state : {W : Type 0} → W → ℕ → List Command → List (List Item) → MirrorState W
small_state o clock accepted runs =
    record (small_match o) { clock = clock; accepted = accepted; runs = runs }

-- copy 0 ran the command of tick 0 after its beat, copy 1 before
abbrev pub unchained : {W : Type 0} → W → MirrorState W
unchained o =
    small_state o 2 (go_at 0 ∷ []) ((Beat ∷ Cmd (go_at 0) ∷ []) ∷ (Cmd (go_at 0) ∷ Beat ∷ []) ∷ [])

-- copy 0 ended tick 0 without its command
abbrev pub lacking : {W : Type 0} → W → MirrorState W
lacking o = small_state o 2 (go_at 0 ∷ []) ((Beat ∷ []) ∷ [] ∷ [])

-- it ran that command twice
abbrev pub doubled : {W : Type 0} → W → MirrorState W
doubled o = small_state o 2 (go_at 0 ∷ []) ((Cmd (go_at 0) ∷ Cmd (go_at 0) ∷ Beat ∷ []) ∷ [] ∷ [])

-- it ran a command that wasn't accepted
abbrev pub strange : {W : Type 0} → W → MirrorState W
strange o = small_state o 2 [] ((Cmd (go_at 0) ∷ Beat ∷ []) ∷ [] ∷ [])

-- it ran the command of the tick that it is in
abbrev pub hasty : {W : Type 0} → W → MirrorState W
hasty o = small_state o 2 (go_at 0 ∷ []) ((Cmd (go_at 0) ∷ []) ∷ [] ∷ [])

-- both copies ran the command of tick 0 after its beat
abbrev pub last_too_late : {W : Type 0} → W → MirrorState W
last_too_late o = small_state o 2 (go_at 0 ∷ []) (replicate 2 (Beat ∷ Cmd (go_at 0) ∷ []))

-- both copies ran the two commands of tick 0 against their key order
abbrev pub last_unsorted : {W : Type 0} → W → MirrorState W
last_unsorted o =
    small_state o 2 (go_first 1 ∷ go_first 0 ∷ [])
    (replicate 2 (Cmd (go_first 1) ∷ Cmd (go_first 0) ∷ Beat ∷ []))

-- copy 0 ran the command of tick 1 in tick 0
abbrev pub too_early : {W : Type 0} → W → MirrorState W
too_early o = small_state o 2 (go_at 1 ∷ []) ((Cmd (go_at 1) ∷ Beat ∷ Beat ∷ []) ∷ [] ∷ [])

-- copy 0 is past the match
abbrev pub past_match : {W : Type 0} → W → MirrorState W
past_match o = small_state o 5 [] (beat 5 ∷ [] ∷ [])

-- the plan was changed, and copy 0 is past the mirror's clock
abbrev pub past_clock : {W : Type 0} → W → MirrorState W
past_clock o =
    record (small_state o 1 [] (beat 2 ∷ [] ∷ [])) { plan = 1; history = Restagger 1 ∷ Tick ∷ [] }

-- the clock is past its end under every plan
abbrev pub past_end : {W : Type 0} → W → MirrorState W
past_end o = small_state o 7 [] ([] ∷ [] ∷ [])

-- copy 1 is level with copy 0, at the mirror's clock
abbrev pub past_delay : {W : Type 0} → W → MirrorState W
past_delay o = small_state o 1 [] (replicate 2 (beat 1))

-- there is a copy more than there are delays
abbrev pub third_copy : {W : Type 0} → W → MirrorState W
third_copy o = small_state o 0 [] (replicate 3 [])

-- two commands have one name
abbrev pub same_names : {W : Type 0} → W → MirrorState W
same_names o = small_state o 0 (go_at 1 ∷ go_at 2 ∷ []) (replicate 2 [])

-- a command is due where the match is over
abbrev pub never_due : {W : Type 0} → W → MirrorState W
never_due o = small_state o 0 (go_at 4 ∷ []) (replicate 2 [])

-- a command was turned away with the clock of copy 0 as its bound
abbrev pub wrong_bound : {W : Type 0} → W → MirrorState W
wrong_bound o =
    record (small_state o 1 [] (beat 1 ∷ [] ∷ [])) {
      turned = record { from = 0; number = 0; bound = 1 } ∷ [];
    }

-- no copy, the second or the first has a tick of the match to go
abbrev pub all_done : {W : Type 0} → W → MirrorState W
all_done o = small_state o 5 [] (beat 4 ∷ beat 4 ∷ [])

abbrev pub last_one_short : {W : Type 0} → W → MirrorState W
last_one_short o = small_state o 5 [] (beat 4 ∷ beat 3 ∷ [])

abbrev pub first_one_short : {W : Type 0} → W → MirrorState W
first_one_short o = small_state o 5 [] (beat 3 ∷ beat 4 ∷ [])

-- the plan in force isn't there
abbrev pub third_plan : {W : Type 0} → W → MirrorState W
third_plan o = record (small_match o) { plan = 2 }

-- ---- schedules and plans

abbrev pub parts_of_schedule : Schedule → List (Type 0)
parts_of_schedule s =
    (0 < length s.delays)
    ∷ (length s.delays ≤ MOST_COPIES)
    ∷ DelaysRise s.delays
    ∷ AllByRecursion (λ delay. delay ≤ LONGEST_DELAY) s.delays
    ∷ (0 < s.length)
    ∷ (s.length ≤ LONGEST_MATCH)
    ∷ []

abbrev pub schedule : List ℕ → ℕ → Schedule
schedule delays length = record { delays = delays; length = length }

-- delays 0 to 8
abbrev pub nine_delays : List ℕ
nine_delays = 0 ∷ 1 ∷ 2 ∷ 3 ∷ 4 ∷ 5 ∷ 6 ∷ 7 ∷ 8 ∷ []

abbrev pub parts_of_plans : List (List ℕ) → ℕ → ℕ → List (Type 0)
parts_of_plans plans ticks copies =
    (0 < length plans)
    ∷ (length plans ≤ MOST_PLANS)
    ∷ AllByRecursion (λ delays. IsSchedule (schedule delays ticks)) plans
    ∷ AllByRecursion (λ delays. length delays ≡ copies) plans
    ∷ []

abbrev pub parts_of_well_formed : {W : Type 0} → MirrorState W → List (Type 0)
parts_of_well_formed s = ArePlans s.plans s.length (length s.runs) ∷ (s.plan < length s.plans) ∷ []

-- ---- legal histories

abbrev pub parts_of_legal : {W : Type 0} → List Command → MirrorState W → List Event → List (Type 0)
parts_of_legal commands s log =
    EachChanges s log ∷ AllByRecursion (NamesWhatIsThere commands s) log ∷ []

-- a command of tick 1 arrives twice
abbrev pub arrives_twice : List Event
arrives_twice = replicate 2 (Arrive (go_at 1))

-- both copies make a step, and then one that isn't there
abbrev pub step_of_a_third : List Event
step_of_a_third = Tick ∷ Step 0 ∷ Tick ∷ Step 1 ∷ Step 2 ∷ []

-- ---- ready ticks

abbrev pub parts_of_due_tick : {W : Type 0} → Rules W → MirrorState W → ReadyTick W → List (Type 0)
parts_of_due_tick rules s r =
    (r.clock ≡ copy_clock s.runs r.copy)
    ∷ (copy_clock s.runs r.copy < step_limit s r.copy)
    ∷ (r.world ≡ world_of rules s.opening (with_tick s.accepted (run_of s r.copy)))
    ∷ []

abbrev pub parts_of_ready : {W : Type 0} → Rules W → MirrorState W → ReadyTick W → List (Type 0)
parts_of_ready rules s r =
    (r.copy < length s.runs) ∷ (r.epoch ≤ epoch s r.copy)
    ∷ (r.epoch ≡ epoch s r.copy → IsDueTick rules s r) ∷ []

-- a game whose world counts the beats
abbrev pub counting : Rules ℕ
counting = record { apply = λ beats x. beats; beat = λ beats. beats + 1 }

-- a match of that game after some events
abbrev pub counted_after : List Event → MirrorState ℕ
counted_after es = after (small_match 0) es

abbrev pub ready : ℕ → ℕ → ℕ → ℕ → ReadyTick ℕ
ready copy epoch clock world = record { copy = copy; epoch = epoch; clock = clock; world = world }
