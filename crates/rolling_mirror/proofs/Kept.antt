-- Each event keeps what is always true.
use Rattle.std.proofs.Common.{◌≡◌, refl, ◌∙◌, ap, sym, subst, ℕ, ◌+◌, ◌-◌, ◌^◌, ◌≤◌, ◌<◌, true, false, cond, ◌&&◌, ◌||◌, eqb, leb, ltb}
use Rattle.std.proofs.Common.{List, [], ◌∷◌, ◌++◌, map, filter, length, get_or, arith, length-append}
use Rattle.std.proofs.Math.ListN.{length-set}
use Rattle.std.proofs.lemmas.Bool.Decides.{nat_tests}
use Rattle.std.proofs.lemmas.List.{length-map, map-append}
use Rattle.std.specs.Prelude.{if◌then◌else◌}
use Rattle.std.specs.List.{AllByRecursion}
use Rattle.game_trait.specs.declared.command.Command.{Command}
use Rattle.game_trait.specs.CommandList.{name_of}
use Rattle.game_trait.specs.NameTree.{NamesOfTree}
use Rattle.game_trait.specs.Game.{Rules}
use Rattle.game_trait.specs.Later.{earlier, left_commands}
use Rattle.game_trait.specs.Run.{beats, IsPrefix}
use Rattle.game_trait.proofs.Lists.{all-to_map, all-both, all-weaker, all-push}
use Rattle.game_trait.proofs.Later.{left-fewer}
use Rattle.sync_model.specs.Lists.{last_of}
use Rattle.sync_model.specs.Schedule.{Schedule}
use Rattle.sync_model.specs.State.{MirrorState, copy_clock, last_clock}
use Rattle.sync_model.specs.Settle.{settle}
use Rattle.sync_model.specs.Staggered.{IsTrailing}
use Rattle.sync_model.specs.Change.{is_idle, with_late, with_tick, proposed_by_step, proposed_by_arrival}
use Rattle.sync_model.specs.Forgetting.{left_run, forgotten}
use Rattle.sync_model.proofs.Settle.{settle-length}
use Rattle.sync_model.proofs.Staggered.{below_limit, same-clocks, one-clock}
use Rattle.sync_model.proofs.Trailing.{beats-step, beats-arrival}
use Rattle.sync_model.proofs.Forgotten.{last-all, all-begin, beats-left}
use Rattle.rolling_mirror.specs.Rolling.{RollState, is_held, forgets, ready, rolled}
use Rattle.rolling_mirror.specs.Kept.{ArePlansOf, IsRolling}

-- the plans fit another state of as many copies, and of the same length and plan
same-plans :
    {W : Type 0} (s t : MirrorState W) (plans : List Schedule) → ArePlansOf s plans → t.length ≡ s.length → length t.runs ≡ length s.runs
    → t.plan < length plans → ArePlansOf t plans
same-plans s t plans h ticks copies there = record {
  ticks_each = subst (λ (n : ℕ). AllByRecursion (λ plan. plan.length ≡ n) plans) (sym ticks) h.ticks_each;
  copies_each = subst (λ (n : ℕ). AllByRecursion (λ plan. length plan.delays ≡ n) plans) (sym copies) h.copies_each;
  in_force = there;
}

-- what is left of the commands is due at the same ticks of the session
due-later :
    (b k : ℕ) (xs : List Command) → AllByRecursion (λ x. b + x.time < 2 ^ 32) xs
    → AllByRecursion (λ x. (b + k) + x.time < 2 ^ 32) (left_commands k xs)
due-later b k [] h = tt
due-later b k (x ∷ xs) h =
    let rest = due-later b k xs h.1 in
    let fits = h.0 in
    elim (leb k x.time) as (λ v. leb k x.time ≡ v → AllByRecursion (λ (y : Command). (b + k) + y.time < 2 ^ 32) (map (earlier k) (cond v (x ∷ filter (λ y. leb k y.time) xs) (filter (λ y. leb k y.time) xs)))) [
      | true ↦ λ e. ((let at : k ≤ x.time = grind (arith, nat_tests) in omega arith), rest)
      | false ↦ λ e. rest
    ] refl

-- what holds of the parts holds of the value
pub within-of : {W : Type 0} {i r : RollState W} → i ≡ r → i.left.clock < i.left.length → r.left.clock < r.left.length
within-of {W} is h = subst (λ (s : RollState W). s.left.clock < s.left.length) is h

pub trailing-of : {W : Type 0} {i r : RollState W} → i ≡ r → IsTrailing i.left.accepted i.left.runs → IsTrailing r.left.accepted r.left.runs
trailing-of {W} is h = subst (λ (s : RollState W). IsTrailing s.left.accepted s.left.runs) is h

pub behind-of : {W : Type 0} {i r : RollState W} → i ≡ r → last_clock i.left.runs ≤ i.left.clock → last_clock r.left.runs ≤ r.left.clock
behind-of {W} is h = subst (λ (s : RollState W). last_clock s.left.runs ≤ s.left.clock) is h

-- a clock that isn't held, after and without forgetting
rolled-room :
    (b clock window k keep spare : ℕ) → k ≤ clock → clock < window → b + clock < 2 ^ 32
    → ltb 0 k && (leb keep k || (eqb (clock + 1) window || eqb spare 0)) ≡ true
    → (eqb k 0 && eqb (clock + 1) window) || eqb (b + clock) (2 ^ 32 - 1) ≡ false
    → ((clock - k) + 1 < window) × ((b + k) + ((clock - k) + 1) < 2 ^ 32)
rolled-room b clock window k keep spare behind within fits e held = (grind (arith, nat_tests), grind (arith, nat_tests))

still-room :
    (b clock window k keep spare : ℕ) → k ≤ clock → clock < window → b + clock < 2 ^ 32
    → ltb 0 k && (leb keep k || (eqb (clock + 1) window || eqb spare 0)) ≡ false
    → (eqb k 0 && eqb (clock + 1) window) || eqb (b + clock) (2 ^ 32 - 1) ≡ false
    → (clock + 1 < window) × (b + (clock + 1) < 2 ^ 32)
still-room b clock window k keep spare behind within fits e held = (grind (arith, nat_tests), grind (arith, nat_tests))

module _ {W : Type 0} {r : RollState W} {plans : List Schedule} {names : NamesOfTree} {start : ℕ} (h : IsRolling r plans names start) where
  -- the last copy isn't ahead of the clock
  pub last-behind : last_clock r.left.runs ≤ r.left.clock
  last-behind = last-all (λ run. beats run ≤ r.left.clock) r.left.runs h.some_copy h.behind_clock

  -- a tick
  pub rolling-moved : r.left.clock + 1 < r.left.length → r.base + (r.left.clock + 1) < 2 ^ 32 → IsRolling (record r { left = record r.left { clock = r.left.clock + 1 } }) plans names start
  rolling-moved within fits = record {
    plans_are = same-plans r.left (record r.left { clock = r.left.clock + 1 }) plans h.plans_are refl refl h.plans_are.in_force;
    some_copy = h.some_copy;
    within_window = within;
    behind_clock = all-weaker (λ run. beats run ≤ r.left.clock) (λ run. beats run ≤ r.left.clock + 1) r.left.runs (λ run b. omega arith) h.behind_clock;
    within_session = fits;
    due_in_session = h.due_in_session;
    told_from = h.told_from;
    names_are = h.names_are;
    names_room = h.names_room;
    first_room = h.first_room;
  }

  -- which has room in the window and in the session
  pub ready-room :
      (rules : Rules W) → is_held r ≡ false
      → ((ready rules r).left.clock + 1 < (ready rules r).left.length) × ((ready rules r).base + ((ready rules r).left.clock + 1) < 2 ^ 32)
  ready-room rules held =
      let behind = last-behind in
      let within = h.within_window in
      let fits = h.within_session in
      let k = last_clock r.left.runs in
      elim (forgets r) as (λ v. forgets r ≡ v
      → ((if v then rolled rules r else r).left.clock + 1 < (if v then rolled rules r else r).left.length)
      × ((if v then rolled rules r else r).base + ((if v then rolled rules r else r).left.clock + 1) < 2 ^ 32)) [
        | true ↦ λ e. rolled-room r.base r.left.clock r.left.length k r.keep r.spare behind within fits e held
        | false ↦ λ e. still-room r.base r.left.clock r.left.length k r.keep r.spare behind within fits e held
      ]
      refl

  -- a step that runs
  pub rolling-ran :
      (c : ℕ) → IsTrailing r.left.accepted r.left.runs → is_idle r.left c ≡ false
      → IsRolling (record r { left = record r.left { runs = settle r.left.accepted (proposed_by_step r.left.accepted r.left.runs c) } }) plans names start
  rolling-ran c trailing more =
      let new = settle r.left.accepted (proposed_by_step r.left.accepted r.left.runs c) in
      let room = below_limit r.left c more in
      let upto = room.2 in
      let many : length new ≡ length r.left.runs =
      settle-length r.left.accepted (proposed_by_step r.left.accepted r.left.runs c)
      ∙ length-set r.left.runs c (with_tick r.left.accepted (get_or r.left.runs c [])) in
      let some = h.some_copy in
      record {
        plans_are = same-plans r.left (record r.left { runs = new }) plans h.plans_are refl many h.plans_are.in_force;
        some_copy = omega arith;
        within_window = h.within_window;
        behind_clock =
            one-clock r.left.clock r.left.runs new c (copy_clock r.left.runs c + 1) (beats-step trailing c room.0) (omega arith) h.behind_clock;
        within_session = h.within_session;
        due_in_session = h.due_in_session;
        told_from = h.told_from;
        names_are = h.names_are;
        names_room = h.names_room;
        first_room = h.first_room;
      }

  -- there is room for the names of what is left
  pub renamed-room : (k : ℕ) → length (left_commands k r.left.accepted) ≤ names.first_room
  renamed-room k =
      let named : length names.items ≡ length r.left.accepted = ap length h.names_are ∙ length-map r.left.accepted name_of in
      let fewer = left-fewer k r.left.accepted in
      let room = h.first_room in
      omega arith

  -- what lies behind the last copy is forgotten
  pub rolling-rolled :
      (rules : Rules W) → IsTrailing r.left.accepted r.left.runs
      → IsRolling (rolled rules r) plans (record names {
        items = map name_of (left_commands (last_clock r.left.runs) r.left.accepted);
        room = names.first_room;
      }) (r.base + last_clock r.left.runs)
  rolling-rolled rules trailing =
      let last = last_of [] r.left.runs in
      let k = beats last in
      let behind = last-behind in
      let left = left_commands k r.left.accepted in
      let runs = map (left_run k (length last)) r.left.runs in
      let many : length runs ≡ length r.left.runs = length-map r.left.runs (left_run k (length last)) in
      let some = h.some_copy in
      let within = h.within_window in
      let fits = h.within_session in
      let named : length names.items ≡ length r.left.accepted = ap length h.names_are ∙ length-map r.left.accepted name_of in
      let renamed : length (map name_of left) ≡ length left = length-map left name_of in
      let fewer = left-fewer k r.left.accepted in
      let room = h.first_room in
      record {
        plans_are = same-plans r.left (forgotten rules r.base r.left) plans h.plans_are refl many h.plans_are.in_force;
        some_copy = omega arith;
        within_window = omega arith;
        behind_clock =
            all-to_map (λ run. beats run ≤ r.left.clock - k) (left_run k (length last)) r.left.runs
            (all-both (λ run. beats run ≤ r.left.clock) (λ run. IsPrefix last run) (λ run. beats (left_run k (length last) run) ≤ r.left.clock - k) r.left.runs
            (λ run upto begins. (let long = beats-left (beats last) last run begins in omega arith)) h.behind_clock
            (all-begin r.left.runs h.some_copy trailing.chained));
        within_session = omega arith;
        due_in_session = due-later r.base k r.left.accepted h.due_in_session;
        told_from = refl;
        names_are = refl;
        names_room = omega arith;
        first_room = omega arith;
      }

  -- another plan
  pub rolling-restaggered : (p : ℕ) → p < length plans → IsRolling (record r { left = record r.left { plan = p } }) plans names start
  rolling-restaggered p there = record {
    plans_are = same-plans r.left (record r.left { plan = p }) plans h.plans_are refl refl there;
    some_copy = h.some_copy;
    within_window = h.within_window;
    behind_clock = h.behind_clock;
    within_session = h.within_session;
    due_in_session = h.due_in_session;
    told_from = h.told_from;
    names_are = h.names_are;
    names_room = h.names_room;
    first_room = h.first_room;
  }

  -- a command that is taken
  pub rolling-taken :
      (x : Command) → IsTrailing r.left.accepted r.left.runs → 0 < r.spare → r.base + x.time < 2 ^ 32
      → IsRolling (record r {
        left = record r.left {
          accepted = r.left.accepted ++ x ∷ [];
          runs = settle (r.left.accepted ++ x ∷ []) (proposed_by_arrival x r.left.runs);
        };
        spare = r.spare - 1;
      }) plans (record names { items = names.items ++ name_of x ∷ [] }) start
  rolling-taken x trailing spare fits =
      let all = r.left.accepted ++ x ∷ [] in
      let new = settle all (proposed_by_arrival x r.left.runs) in
      let many : length new ≡ length r.left.runs =
      settle-length all (proposed_by_arrival x r.left.runs) ∙ length-map r.left.runs (with_late x) in
      let some = h.some_copy in
      let room = h.names_room in
      let first = h.first_room in
      let longer = length-append names.items (name_of x ∷ []) in
      record {
        plans_are = same-plans r.left (record r.left { accepted = all; runs = new }) plans h.plans_are refl many h.plans_are.in_force;
        some_copy = omega arith;
        within_window = h.within_window;
        behind_clock = same-clocks r.left.clock r.left.runs new (beats-arrival trailing x) h.behind_clock;
        within_session = h.within_session;
        due_in_session = all-push (λ y. r.base + y.time < 2 ^ 32) r.left.accepted x h.due_in_session fits;
        told_from = h.told_from;
        names_are = ap (λ (l : List _). l ++ name_of x ∷ []) h.names_are ∙ sym (map-append name_of r.left.accepted (x ∷ []));
        names_room = omega arith;
        first_room = omega arith;
      }

-- the same where the value is known by its parts
pub room-of :
    {W : Type 0} {i r v : RollState W} {plans : List Schedule} {names : NamesOfTree} {start : ℕ} → IsRolling i plans names start → (rules : Rules W)
    → i ≡ r → is_held r ≡ false → v ≡ ready rules r
    → (v.left.clock + 1 < v.left.length) × (v.base + (v.left.clock + 1) < 2 ^ 32)
room-of {W} {plans = plans} {names = names} {start = start} h rules view held is =
    subst (λ (s : RollState W). (s.left.clock + 1 < s.left.length) × (s.base + (s.left.clock + 1) < 2 ^ 32)) (sym is)
    (ready-room (subst (λ (s : RollState W). IsRolling s plans names start) view h) rules held)
