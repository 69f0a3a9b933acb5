-- What a mirror's events keep.
use Rattle.std.proofs.Common.{◌≡◌, ℕ, true, false, cond, ◌≤◌, length, List, [], ◌∷◌, refl, ap, sym, ◌∙◌, arith}
use Rattle.std.proofs.lemmas.Bool.Decides.{nat_tests}
use Rattle.game_trait.specs.declared.command.Command.{Command}
use Rattle.game_trait.specs.declared.event.Event.{Event}
use Rattle.game_trait.specs.declared.event.Event.TheVariants.{Tick, Arrive}
use Rattle.game_trait.specs.declared.limits.TheConstants.{GREATEST_NUMBER}
use Rattle.game_trait.specs.Game.{Rules}
use Rattle.std.specs.Prelude.{is_some}
use Rattle.sync_model.specs.Forgetting.{arrive_from}
use Rattle.sync_model.specs.State.{MirrorState, opening_state}
use Rattle.rolling_mirror.specs.Rolling.{as_arrived}
use Rattle.endless_mirror.specs.Stands.{arrival_made, arrived_from}
use Rattle.sync_model.specs.Schedule.{Schedule, ticks_of_first, delays_of_each}
use Rattle.sync_model.proofs.Cases.{next-fixed}
use Rattle.match_data.specs.Data.{MatchData, all_plans, schedules, most_commands}
use Rattle.match_data.proofs.Plans.{delays-of_schedules}
use Rattle.rolling_mirror.specs.declared.arrival.Arrival.{Arrival}
use Rattle.rolling_mirror.specs.declared.arrival.Arrival.TheVariants.{Taken, Repeat, Late, Far, Full}
use Rattle.rolling_mirror.specs.Rolling.{RollState, left_after, left_after_all, forgets, rolled, ready, is_held, ticked, turned, steps_of_each, in_window, arrived}
use Rattle.std.specs.List.{AllByRecursion, list_all}
use Rattle.std.proofs.lemmas.Bool.{and_parts, leb-true}
use Rattle.rolling_mirror.specs.Rolling.{LetsTurnsGoOn}
use Rattle.endless_mirror.specs.Way.{lets_run}
use Rattle.endless_mirror.specs.Session.{SessionState, IsSession, number_behind, opening_roll, opening_session}

-- another state of the mirror with the same plans
pub other-mirror : {W : Type 0} (s : SessionState W) (t : RollState W) (plans : ℕ) → t.left.plans ≡ s.mirror.left.plans → IsSession s plans
    → IsSession (record s { mirror = t }) plans
other-mirror s t plans same is = record {
  plans_are = is.plans_are ∙ ap (λ (ps : List (List ℕ)). length ps) (sym same);
  few_players = is.few_players;
  next_is = is.next_is;
}

-- and with another number that isn't past the last
pub other-next : {W : Type 0} (s : SessionState W) (n plans : ℕ) → n ≤ GREATEST_NUMBER → IsSession s plans → IsSession (record s { next = n }) plans
other-next s n plans few is = record { plans_are = is.plans_are; few_players = is.few_players; next_is = few }

-- the number behind a number isn't past the last
pub behind-few : (n m : ℕ) → m ≡ number_behind n → m ≤ GREATEST_NUMBER
behind-few n m is = grind (arith, nat_tests)

module _ {W : Type 0} where
  left-plans : (r : RollState W) (e : Event) → (left_after r e).left.plans ≡ r.left.plans
  left-plans r e = (next-fixed r.left e).plans

  pub event-plans : (r t : RollState W) (e : Event) → t ≡ left_after r e → t.left.plans ≡ r.left.plans
  event-plans r t e same = ap (λ (u : RollState W). u.left.plans) same ∙ left-plans r e

  arrived-plans : (r : RollState W) (x : Command) (a : Arrival) → (arrived r x a).left.plans ≡ r.left.plans
  arrived-plans r x (Taken repaired) = left-plans r (Arrive (in_window r x))
  arrived-plans r x Repeat = refl
  arrived-plans r x (Late bound) = refl
  arrived-plans r x (Far end) = refl
  arrived-plans r x Full = refl

  pub arrival-plans : (r t : RollState W) (x : Command) (a : Arrival) → t ≡ arrived r x a → t.left.plans ≡ r.left.plans
  arrival-plans r t x a same = ap (λ (u : RollState W). u.left.plans) same ∙ arrived-plans r x a

  ready-plans : (rules : Rules W) (r : RollState W) → (ready rules r).left.plans ≡ r.left.plans
  ready-plans rules r = elim (forgets r) as (λ v. (cond v (rolled rules r) r).left.plans ≡ r.left.plans) [ true ↦ refl | false ↦ refl ]

  ticked-plans : (rules : Rules W) (r : RollState W) → (ticked rules r).left.plans ≡ r.left.plans
  ticked-plans rules r =
      elim (is_held r) as (λ v. (cond v r (left_after (ready rules r) Tick)).left.plans ≡ r.left.plans) [
        | true ↦ refl
        | false ↦ left-plans (ready rules r) Tick ∙ ready-plans rules r
      ]

  pub tick-plans : (rules : Rules W) (r t : RollState W) → t ≡ ticked rules r → t.left.plans ≡ r.left.plans
  tick-plans rules r t same = ap (λ (u : RollState W). u.left.plans) same ∙ ticked-plans rules r

  events-plans : (es : List Event) (r : RollState W) → (left_after_all r es).left.plans ≡ r.left.plans
  unfolding left_after_all
  events-plans [] r = refl
  events-plans (e ∷ es) r = events-plans es (left_after r e) ∙ left-plans r e

  pub turn-plans : (rules : Rules W) (r t : RollState W) → t ≡ turned rules r → t.left.plans ≡ r.left.plans
  turn-plans rules r t same =
      ap (λ (u : RollState W). u.left.plans) same ∙ events-plans (steps_of_each (ticked rules r)) (ticked rules r) ∙ ticked-plans rules r

-- the mirror as a session begins
pub opened : {W : Type 0} (opening : W) (m : MatchData) (number : ℕ) (mirror : RollState W) (ps : List Schedule) (names : List (List ℕ)) (version mirrors room keep : ℕ)
    → mirror ≡ record { base = 0; left = opening_state opening (ticks_of_first ps) (delays_of_each ps) 0 0; spare = room; keep = keep }
    → ps ≡ schedules m → names ≡ m.names → version ≡ m.version → mirrors ≡ m.mirrors → room ≡ most_commands m.version → keep ≡ (opening_roll opening m).keep
    → record { mirror = mirror; names = names; number = number; version = version; mirrors = mirrors; next = 0 } ≡ opening_session opening m number
opened {W} opening m number mirror ps names version mirrors room keep made plans names_is version_is mirrors_is room_is keep_is =
    let mirror_is : mirror ≡ opening_roll opening m =
    made ∙ ap (λ (qs : List Schedule). record { base = 0; left = opening_state opening (ticks_of_first qs) (delays_of_each qs) 0 0; spare = room; keep = keep }) plans
    ∙ ap (λ (ds : List (List ℕ)). record { base = 0; left = opening_state opening m.length ds 0 0; spare = room; keep = keep }) (delays-of_schedules m)
    ∙ ap (λ (n : ℕ). record { base = 0; left = opening_state opening m.length (all_plans m) 0 0; spare = n; keep = keep }) room_is
    ∙ ap (λ (k : ℕ). record { base = 0; left = opening_state opening m.length (all_plans m) 0 0; spare = most_commands m.version; keep = k }) keep_is in
    λ i. record { mirror = mirror_is i; names = names_is i; number = number; version = version_is i; mirrors = mirrors_is i; next = 0 }

-- the window lets the last copy run under each plan
pub let-run : (plans : List Schedule) → list_all lets_run plans ≡ true → AllByRecursion LetsTurnsGoOn plans
let-run [] all = tt
let-run (plan ∷ plans) all = (let parts = and_parts _ _ all in (leb-true _ _ parts.0, let-run plans parts.1))

-- what is answered has come to the mirror that remembers all, and what waits hasn't
module _ {W : Type 0} (b : ℕ) (whole : MirrorState W) (x : Command) where
  pub has-come : (a : Arrival) → is_some (as_arrived a) ≡ true → (arrival_made x a ≡ Arrive x ∷ []) × (arrived_from b whole x a ≡ arrive_from b whole x)
  has-come (Taken repaired) some = (refl, refl)
  has-come Repeat some = (refl, refl)
  has-come (Late bound) some = (refl, refl)
  has-come (Far end) some = absurd (let k = some in cc)
  has-come Full some = absurd (let k = some in cc)

  pub has-waited : (a : Arrival) → is_some (as_arrived a) ≡ false → (arrival_made x a ≡ []) × (arrived_from b whole x a ≡ whole)
  has-waited (Taken repaired) none = absurd (let k = none in cc)
  has-waited Repeat none = absurd (let k = none in cc)
  has-waited (Late bound) none = absurd (let k = none in cc)
  has-waited (Far end) none = (refl, refl)
  has-waited Full none = (refl, refl)
