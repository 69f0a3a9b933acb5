-- What is told of a mirror at its end is legal.
use Rattle.std.proofs.Common.{◌≡◌, ℕ, List, [], ◌∷◌, length, map, refl, sym, ap, subst, ◌∙◌, arith}
use Rattle.std.specs.List.{AllByRecursion}
use Rattle.std.proofs.lemmas.List.{length-map}
use Rattle.game_trait.specs.declared.command.Command.{Command}
use Rattle.game_trait.specs.declared.command.Item.{Item}
use Rattle.game_trait.specs.declared.event.Event.{Event}
use Rattle.game_trait.specs.declared.event.Event.TheVariants as events
use Rattle.game_trait.proofs.KeyOrder.{all-weaker}
use Rattle.sync_model.specs.State.{MirrorState, opening_state}
use Rattle.sync_model.specs.Change.{after, Fits}
use Rattle.sync_model.specs.Consistent.{IsConsistent}
use Rattle.sync_model.specs.History.{changing, without_room, EachChanges}
use Rattle.sync_model.specs.Legal.{IsLegal, NamesWhatIsThere}
use Rattle.sync_model.specs.Schedule.{IsSchedule}
use Rattle.sync_model.specs.WellFormed.{ArePlans}
use Rattle.sync_model.proofs.Alike.{legal-same}
use Rattle.sync_model.proofs.History.{history_grows, changing_events_suffice, changing-each}
use Rattle.sync_model.proofs.Legal.{all-changing}
use Rattle.sync_model.proofs.Room.{after-same, opening_from_history}
use Rattle.sync_model.proofs.Staggered.{opening_staggered}
use Rattle.match_data.specs.Data.{MatchData, IsMatch, schedule_of, all_plans}
use Rattle.live_text.specs.declared.request.Request.{Request}
use Rattle.live_mirror.specs.Events.{after_requests, FitAlong}
use Rattle.live_laws.specs.Events.{IsAmong, audited_from}
use Rattle.live_mirror.specs.Session.{opening_session}
use Rattle.live_mirror.proofs.Made.{are-made, requests-fit}

-- what each copy has run before any event
abbrev no_run : ℕ → List Item
no_run delay = []

-- a mirror of a match is one from the start
opening-plans : (m : MatchData) → IsMatch m → ArePlans (all_plans m) m.length (length (map no_run m.delays))
opening-plans m is =
    let copies : length (map no_run m.delays) ≡ length m.delays = length-map m.delays no_run in
    record {
      some_plan = omega arith;
      few_plans = (let few = is.plan_count in omega arith);
      schedules = (
        is.delays,
        all-weaker (λ p. IsSchedule (schedule_of m p) × (length p ≡ length m.delays)) (λ p. IsSchedule (schedule_of m p)) m.plans (λ p h. h.0) is.plans,
      );
      equal_copies = (
        sym copies,
        all-weaker (λ p. IsSchedule (schedule_of m p) × (length p ≡ length m.delays)) (λ p. length p ≡ length (map no_run m.delays)) m.plans
            (λ p h. h.1 ∙ sym copies) is.plans,
      );
    }

pub opening-consistent : {W : Type 0} (opening : W) (m : MatchData) (spare plan_spare : ℕ) → IsMatch m → IsConsistent (opening_state opening m.length (all_plans m) spare plan_spare)
unfolding EachChanges
opening-consistent opening m spare plan_spare is = record {
  staggered = opening_staggered opening m.length (all_plans m) spare plan_spare;
  well_formed = record { plans = opening-plans m is; in_force = omega arith };
  from_history = opening_from_history opening m.length (all_plans m) spare plan_spare;
  each_changes = tt;
}

named-of : {W : Type 0} (commands : List Command) (s : MirrorState W) (es : List Event) → AllByRecursion (Fits s) es → AllByRecursion (IsAmong commands) es
    → AllByRecursion (NamesWhatIsThere commands s) es
named-of commands s [] fits among = tt
named-of commands s (events.Tick ∷ es) fits among = (tt, named-of commands s es fits.1 among.1)
named-of commands s (events.Arrive x ∷ es) fits among = (among.0, named-of commands s es fits.1 among.1)
named-of commands s (events.Step c ∷ es) fits among = (fits.0, named-of commands s es fits.1 among.1)
named-of commands s (events.Restagger p ∷ es) fits among = (fits.0, named-of commands s es fits.1 among.1)

pub audited : {W : Type 0} (opening : W) (m : MatchData) (number : ℕ) (rs : List Request) (commands : List Command) → IsMatch m → FitAlong (opening_session opening m number) rs
    → AllByRecursion (IsAmong commands) (after_requests (opening_session opening m number) rs).mirror.history
    → IsLegal commands (audited_from opening m) (after_requests (opening_session opening m number) rs).mirror.history
    × (without_room (after (audited_from opening m) (after_requests (opening_session opening m number) rs).mirror.history)
    ≡ without_room (after_requests (opening_session opening m number) rs).mirror)
audited {W} opening m number rs commands is fit among =
    let start = opening_session opening m number in
    let first = start.mirror in
    let ended = (after_requests start rs).mirror in
    let es = are-made rs start in
    let log = changing first es.0 in
    let same : ended.history ≡ log = sym (ap (λ (t : MirrorState W). t.history) es.2) ∙ history_grows first es.0 in
    let fits = all-changing (Fits first) first es.0 (requests-fit rs start es.0 (opening-consistent opening m first.spare first.plan_spare is) fit es.1) in
    let legal : IsLegal commands first log = record {
      changes = changing-each es.0 first;
      there = named-of commands first log fits (subst (AllByRecursion (IsAmong commands)) same among);
    } in
    let leads : without_room (after (audited_from opening m) log) ≡ without_room ended =
    after-same log (audited_from opening m) first refl ∙ ap (λ (t : MirrorState W). without_room t) (changing_events_suffice es.0 first ∙ es.2) in (
      subst (λ (l : List Event). IsLegal commands (audited_from opening m) l) (sym same) (legal-same commands first (audited_from opening m) log refl legal),
      subst (λ (l : List Event). without_room (after (audited_from opening m) l) ≡ without_room ended) (sym same) leads,
    )
