-- What the next event of a walk finds and leaves.
use Rattle.std.proofs.Common.{◌≡◌, length, ℕ, ◌+◌, ◌-◌, ◌<◌, ◌≤◌, Bool, true, false, cond, ◌&&◌, List, [], ◌∷◌, ◌++◌, Some, None, refl, ap, sym, subst, ◌∙◌, length-append, arith}
use Rattle.std.specs.List.{AllByRecursion}
use Rattle.std.proofs.lemmas.List.{length-map}
use Rattle.game_trait.specs.declared.command.Command.{Command}
use Rattle.game_trait.specs.declared.event.Event.{Event}
use Rattle.game_trait.specs.declared.event.Event.TheVariants.{Tick, Arrive, Step, Restagger}
use Rattle.game_trait.specs.declared.event.Reply.{Reply}
use Rattle.game_trait.specs.declared.event.Reply.TheVariants.{Tick as ToTick, Arrive as ToArrive, Step as ToStep, Restaggered}
use Rattle.game_trait.specs.declared.event.Ticked.TheVariants.{Moved, Over}
use Rattle.game_trait.specs.declared.event.Arrived.TheVariants.{Taken, Repeat, Late}
use Rattle.game_trait.specs.declared.event.Stepped.TheVariants.{Ran, Idle}
use Rattle.game_trait.specs.declared.limits.TheConstants.{MOST_ROOM}
use Rattle.game_trait.specs.Count.{times}
use Rattle.game_trait.specs.Events.{is_arrival, is_restagger}
use Rattle.sync_model.specs.Schedule.{Schedule, delays_of_each, ticks_of_first}
use Rattle.sync_model.specs.State.{MirrorState, opening_state}
use Rattle.sync_model.specs.Change.{next, said, changes, is_change, Fits}
use Rattle.sync_model.specs.History.{HasRoom}
use Rattle.sync_model.specs.Legal.{NamesWhatIsThere}
use Rattle.sync_model.proofs.Legal.{named-fits}
use Rattle.sync_model.proofs.Along.{all-fit-next}
use Rattle.sync_model.proofs.History.{history-next, unchanged-next}
use Rattle.sync_model.proofs.Room.{spare-next, plan_spare-next}
use Rattle.match_data.specs.Data.{MatchData, IsMatch, IsCommand, all_plans, schedules}
use Rattle.run_recorder.specs.Data.{IsEventOf}
use Rattle.run_auditor.specs.declared.why.Why.{Why}
use Rattle.run_auditor.specs.Walks.{why_of, LogWalk, IsWalk, moved, moved_on}
use Rattle.game_trait.proofs.CommandLists.{command_named-Contains}
use Rattle.match_data.proofs.Plans.{delays-of_schedules}
use Rattle.std.proofs.Math.Bool.{and-true}

-- ---- answers

pub why_changes : (r : Reply) → why_of r ≡ None → is_change r ≡ true
why_changes (ToTick Moved) e = refl
why_changes (ToTick Over) e = absurd cc
why_changes (ToArrive (Taken n)) e = refl
why_changes (ToArrive Repeat) e = absurd cc
why_changes (ToArrive (Late bound)) e = refl
why_changes (ToStep (Ran n)) e = refl
why_changes (ToStep Idle) e = absurd cc
why_changes Restaggered e = refl

pub why_stays : (r : Reply) (why : Why) → why_of r ≡ Some why → is_change r ≡ false
why_stays (ToTick Moved) why e = absurd cc
why_stays (ToTick Over) why e = refl
why_stays (ToArrive (Taken n)) why e = absurd cc
why_stays (ToArrive Repeat) why e = refl
why_stays (ToArrive (Late bound)) why e = absurd cc
why_stays (ToStep (Ran n)) why e = absurd cc
why_stays (ToStep Idle) why e = refl
why_stays Restaggered why e = absurd cc

-- ---- what a walk keeps

pub has_room : {W : Type 0} (s : MirrorState W) (left rest : List Event) (e : Event) → left ≡ e ∷ rest → IsWalk s left → HasRoom s e
unfolding times
has_room s left rest Tick whole is = tt
has_room s left rest (Arrive x) whole is = let spare : s.spare ≡ times is_arrival (Arrive x ∷ rest) = is.spare ∙ ap (times is_arrival) whole in omega (arith, spare)
has_room s left rest (Step c) whole is = tt
has_room s left rest (Restagger p) whole is = let spare : s.plan_spare ≡ times is_restagger (Restagger p ∷ rest) = is.plan_spare ∙ ap (times is_restagger) whole in omega (arith, spare)

-- an event that changes the mirror
pub walk_moves : {W : Type 0} (s : MirrorState W) (left rest : List Event) (e : Event) → left ≡ e ∷ rest → changes s e ≡ true → IsWalk s left → IsWalk (next s e) rest
unfolding times
walk_moves s left rest e whole changed is =
    let spare : s.spare ≡ cond (is_arrival e) 1 0 + times is_arrival rest = is.spare ∙ ap (times is_arrival) whole in
    let plan_spare : s.plan_spare ≡ cond (is_restagger e) 1 0 + times is_restagger rest = is.plan_spare ∙ ap (times is_restagger) whole in
    let after : (next s e).spare ≡ s.spare - cond (is_arrival e) 1 0 = spare-next s e
    ∙ ap (λ (b : Bool). s.spare - cond (is_arrival e && b) 1 0) changed
    ∙ ap (λ (b : Bool). s.spare - cond b 1 0) (and-true (is_arrival e)) in
    let plan_after = plan_spare-next s e in
    let history : (next s e).history ≡ s.history ++ e ∷ [] = history-next s e ∙ rw changed refl in
    let few = is.few in
    let longer : length (next s e).history ≡ length s.history + 1 = ap length history ∙ length-append s.history (e ∷ []) in
    let count : length left ≡ length rest + 1 = ap length whole ∙ omega arith in
    record {
      spare = after ∙ ap (λ (n : ℕ). n - cond (is_arrival e) 1 0) spare ∙ omega arith;
      plan_spare = plan_after ∙ ap (λ (n : ℕ). n - cond (is_restagger e) 1 0) plan_spare ∙ omega arith;
      fits = all-fit-next s e rest (subst (AllByRecursion (Fits s)) whole is.fits).1;
      few = omega (arith, longer, count);
    }

pub walk_stays : {W : Type 0} (s : MirrorState W) (left : List Event) (e : Event) → changes s e ≡ false → IsWalk s left → IsWalk (next s e) left
walk_stays s left e same is = subst (λ t. IsWalk t left) (sym (unchanged-next s e same)) is

-- a walk whose next event changes nothing stays
pub stays_put : {W : Type 0} (w v : LogWalk W) (e : Event) (rest : List Event) (why : Why) → w ≡ v → w.left ≡ e ∷ rest
    → why_of (said w.mirror e) ≡ Some why → record w { mirror = next w.mirror e } ≡ moved_on v v.left
stays_put {W} w v e rest why here whole stuck =
    let same = unchanged-next w.mirror e (why_stays (said w.mirror e) why stuck) in
    (λ i. record w { mirror = same i }) ∙ sym (ap (moved_on w) whole ∙ ap (moved w e rest) stuck) ∙ ap (λ (u : LogWalk W). moved_on u u.left) here

-- ---- a walk that begins

-- an event of the match names what is there at each of its mirrors
event_named : {W : Type 0} (m : MatchData) (s : MirrorState W) (e : Event) → s.plans ≡ all_plans m → length s.runs ≡ length m.delays → IsEventOf m e → NamesWhatIsThere m.commands s e
event_named m s Tick plans copies is = tt
event_named m s (Arrive x) plans copies is = command_named-Contains m.commands x.from x.number x is
event_named m s (Step c) plans copies is = omega (arith, copies, is)
event_named m s (Restagger p) plans copies is = let count : length s.plans ≡ length m.plans + 1 = ap length plans ∙ omega arith in omega (arith, count, is)

pub events_named : {W : Type 0} (m : MatchData) (s : MirrorState W) (log : List Event) → s.plans ≡ all_plans m
    → length s.runs ≡ length m.delays → AllByRecursion (IsEventOf m) log
    → AllByRecursion (NamesWhatIsThere m.commands s) log
events_named m s [] plans copies is = tt
events_named m s (e ∷ log) plans copies is = (event_named m s e plans copies is.0, events_named m s log plans copies is.1)

commands_due : (m : MatchData) (commands : List Command) → AllByRecursion (IsCommand m) commands → AllByRecursion (λ x. x.time < m.length) commands
commands_due m [] is = tt
commands_due m (x ∷ commands) is = (is.0.time, commands_due m commands is.1)

all_fit : {W : Type 0} (commands : List Command) (s : MirrorState W) (log : List Event)
    → AllByRecursion (λ x. x.time < s.length) commands → AllByRecursion (NamesWhatIsThere commands s) log
    → AllByRecursion (Fits s) log
all_fit commands s [] due is = tt
all_fit commands s (e ∷ log) due is = (named-fits commands s due e is.0, all_fit commands s log due is.1)

pub opened_copies : {W : Type 0} (opening : W) (m : MatchData) (room changes : ℕ) → length (opening_state opening m.length (all_plans m) room changes).runs ≡ length m.delays
opened_copies opening m room changes = length-map m.delays (λ _. [])

pub walk_begins : {W : Type 0} (opening : W) (m : MatchData) (log : List Event) → IsMatch m → length log ≤ MOST_ROOM
    → AllByRecursion (IsEventOf m) log → IsWalk (opening_state opening m.length (all_plans m) (times is_arrival log)
    (times is_restagger log)) log
walk_begins opening m log is few of_match =
    let s = opening_state opening m.length (all_plans m) (times is_arrival log) (times is_restagger log) in
    record {
      spare = refl;
      plan_spare = refl;
      fits = all_fit m.commands s log (commands_due m m.commands is.commands) (events_named m s log refl (opened_copies opening m (times is_arrival log) (times is_restagger log)) of_match);
      few = omega arith;
    }

-- ---- the mirror of a walk

-- the mirror that is made of a match's plans
pub opened : {W : Type 0} (opening : W) (m : MatchData) (plans : List Schedule) (log : List Event) (room changes : ℕ)
    (s : MirrorState W) → plans ≡ schedules m → room ≡ times is_arrival log → changes ≡ times is_restagger log
    → s ≡ opening_state opening (ticks_of_first plans) (delays_of_each plans) room changes → s ≡ opening_state opening m.length (all_plans m) (times is_arrival log) (times is_restagger log)
opened opening m plans log room changes s is counted changed made = made ∙ rw (is, delays-of_schedules m, counted, changed) refl
