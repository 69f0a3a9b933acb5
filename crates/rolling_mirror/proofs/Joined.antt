-- A mirror of a session without an end that opens from a snapshot.
use Rattle.std.proofs.Common.{◌≡◌, refl, ◌∙◌, ap, sym, subst, ℕ, zero, suc, ◌+◌, ◌-◌, ◌≤◌, ◌<◌, ◌^◌, Bool, true, false, cond, ◌||◌, leb, ltb}
use Rattle.std.proofs.Common.{List, [], ◌∷◌, ◌++◌, map, filter, length, take, replicate, get_or, append-nil, arith}
use Rattle.std.proofs.lemmas.Grind.{take_at_read}
use Rattle.std.proofs.lemmas.Bool.Decides.{nat_tests}
use Rattle.std.proofs.lemmas.List.{length-replicate, length-take-le, take_all, length-map, map-append}
use Rattle.std.specs.List.{AllByRecursion, list_any}
use Rattle.game_trait.specs.declared.command.Command.{Command}
use Rattle.game_trait.specs.declared.command.Item.{Item}
use Rattle.game_trait.specs.declared.event.Event.TheVariants.{Arrive}
use Rattle.game_trait.specs.Game.{Rules}
use Rattle.game_trait.specs.Keys.{same_name, NamesDiffer}
use Rattle.game_trait.specs.Later.{world_from, later, earlier}
use Rattle.game_trait.specs.Ordered.{ordered}
use Rattle.game_trait.specs.Run.{beats, world_of}
use Rattle.game_trait.proofs.CommandLists.{names-at}
use Rattle.game_trait.proofs.Later.{command-later-earlier}
use Rattle.game_trait.proofs.KeyOrder.{NamesDiffer-filter}
use Rattle.game_trait.proofs.Lists.{all-at, all-weaker, all-to_map}
use Rattle.sync_model.specs.Lists.{last_of}
use Rattle.sync_model.specs.Schedule.{Schedule, delays_of_each, ticks_of_first, copies_of_first}
use Rattle.sync_model.specs.Settle.{settle_one, settle}
use Rattle.sync_model.specs.State.{MirrorState, last_clock}
use Rattle.sync_model.specs.Change.{is_repeat, with_late, proposed_by_arrival}
use Rattle.sync_model.specs.Staggered.{IsTrailing}
use Rattle.sync_model.specs.Forgetting.{whole_run}
use Rattle.sync_model.proofs.Lists.{last_of-at}
use Rattle.sync_model.proofs.Forgetting.{filter-through, last-clocks}
use Rattle.sync_model.proofs.Forgotten.{world_of-whole}
use Rattle.rolling_mirror.specs.declared.handed.SessionSnapshot.{SessionSnapshot}
use Rattle.rolling_mirror.specs.Rolling.{RollState, IsWindowOf, left_after}
use Rattle.rolling_mirror.specs.Kept.{IsRolling}
use Rattle.rolling_mirror.specs.Snapshot.{due_from, IsSnapshotOf, IsOpenable, snapshot_of, opened_with, opened_at, rolled_back}
use Rattle.game_trait.specs.NameTree.{NamesOfTree}
use Rattle.rolling_mirror.proofs.Kept.{last-behind}
use Rattle.rolling_mirror.proofs.Windows.{last-of-whole, last-ordered}
use Rattle.rolling_mirror.proofs.Arrivals.{after-taken}

-- ---- copies that have run nothing

none-past : (n k : ℕ) → AllByRecursion (λ run. beats run ≤ k) (replicate {A = List Item} n [])
unfolding beats
none-past zero k = tt
none-past (suc n) k = (omega arith, none-past n k)

none-last : (n : ℕ) → last_of {X = List Item} [] (replicate n []) ≡ []
unfolding last_of
none-last zero = refl
none-last (suc zero) = refl
none-last (suc (suc n)) = none-last (suc n)

none-late : (x : Command) (n : ℕ) → map (with_late x) (replicate n []) ≡ replicate n []
unfolding with_late beats
none-late x zero = refl
none-late x (suc n) =
    let early : ltb x.time 0 ≡ false = grind (arith, nat_tests) in
    rw (early, none-late x n) refl

none-settled : (all : List Command) (n : ℕ) → settle all (replicate n []) ≡ replicate n []
unfolding settle settle_one
none-settled all zero = refl
none-settled all (suc zero) = refl
none-settled all (suc (suc n)) = rw (none-settled all (suc n)) refl

-- ---- before its commands come

-- a mirror as it opens from a snapshot, as yet without commands
abbrev pub opened_empty : {W : Type 0} → SessionSnapshot W → List Schedule → ℕ → ℕ → RollState W
opened_empty snap plans room keep = record (opened_with snap plans room keep []) { spare = room }

pub opened-empty :
    {W : Type 0} (snap : SessionSnapshot W) (plans : List Schedule) (room keep : ℕ)
    → opened_empty snap plans room keep ≡ opened_with snap plans room keep []
opened-empty snap plans room keep =
    (let e : room ≡ room - 0 = omega arith in ap (λ (n : ℕ). record (opened_with snap plans room keep []) { spare = n }) e)

pub rolling-empty :
    {W : Type 0} (snap : SessionSnapshot W) (plans : List Schedule) (room keep : ℕ)
    → 0 < copies_of_first plans
    → AllByRecursion (λ plan. plan.length ≡ ticks_of_first plans) plans
    → AllByRecursion (λ plan. length plan.delays ≡ copies_of_first plans) plans
    → snap.plan < length plans → snap.base ≤ snap.clock → snap.clock < snap.base + ticks_of_first plans → snap.clock < 2 ^ 32
    → IsRolling (opened_empty snap plans room keep) plans (record { items = []; room = room; first_room = room }) snap.base
rolling-empty snap plans room keep some_copy same each there behind reaches fits =
    let many = length-replicate {A = List Item} (copies_of_first plans) [] in
    record {
      plans_are = record {
        ticks_each = same;
        copies_each = subst (λ (n : ℕ). AllByRecursion (λ plan. length plan.delays ≡ n) plans) (sym many) each;
        in_force = there;
      };
      some_copy = omega arith;
      within_window = omega arith;
      behind_clock = none-past (copies_of_first plans) (snap.clock - snap.base);
      within_session = omega arith;
      due_in_session = tt;
      told_from = refl;
      names_are = refl;
      names_room = omega arith;
      first_room = omega arith;
    }

-- ---- its commands come

named-told : (b : ℕ) (x : Command) (ys : List Command) → list_any (same_name (earlier b x)) (map (earlier b) ys) ≡ list_any (same_name x) ys
unfolding same_name
named-told b x [] = refl
named-told b x (y ∷ ys) = ap (λ (v : Bool). same_name x y || v) (named-told b x ys)

pub more-room :
    {W : Type 0} (snap : SessionSnapshot W) (plans : List Schedule) (room keep : ℕ) → IsOpenable snap plans room → (i : ℕ) → i < length snap.commands
    → 0 < (opened_with snap plans room keep (take i snap.commands)).spare
more-room snap plans room keep fits_all i there =
    (let m = length-take-le i snap.commands (omega arith) in let all = fits_all.room_for_all in omega arith)

module _ {W : Type 0} (snap : SessionSnapshot W) (plans : List Schedule) (room keep : ℕ) (fits_all : IsOpenable snap plans room) (i : ℕ) (d : Command)
    (there : i < length snap.commands) where
  abbrev this : Command
  this = get_or snap.commands i d

  abbrev sofar : RollState W
  sofar = opened_with snap plans room keep (take i snap.commands)

  many : length (take i snap.commands) ≡ i
  many = length-take-le i snap.commands (omega arith)

  pub more-within : (earlier snap.base this).time < sofar.left.length
  more-within =
      let due = all-at (λ (x : Command). snap.base ≤ x.time) snap.commands i d fits_all.due there in
      let reached = all-at (λ (x : Command). x.time < snap.base + ticks_of_first plans) snap.commands i d fits_all.reached there in
      omega arith

  pub more-in_session : snap.base + (earlier snap.base this).time < 2 ^ 32
  more-in_session =
      let fits = all-at (λ (x : Command). x.time < 2 ^ 32) snap.commands i d fits_all.due_in_session there in
      let due = all-at (λ (x : Command). snap.base ≤ x.time) snap.commands i d fits_all.due there in
      omega arith

  pub more-new : is_repeat sofar.left (earlier snap.base this) ≡ false
  more-new =
      named-told snap.base this (take i snap.commands) ∙ names-at snap.commands i d there fits_all.names

  pub more-due : last_clock sofar.left.runs ≤ (earlier snap.base this).time
  unfolding beats
  more-due = rw (none-last (copies_of_first plans)) (omega arith)

  pub more-state :
      record (left_after sofar (Arrive (earlier snap.base this))) { spare = sofar.spare - 1 }
      ≡ opened_with snap plans room keep (take (i + 1) snap.commands)
  more-state =
      let x = earlier snap.base this in
      let n = copies_of_first plans in
      let one : take (i + 1) snap.commands ≡ take i snap.commands ++ this ∷ [] = (take_at_read snap.commands i d there).1 in
      let told : map (earlier snap.base) (take i snap.commands) ++ x ∷ [] ≡ map (earlier snap.base) (take (i + 1) snap.commands) =
      sym (ap (map (earlier snap.base)) one ∙ map-append (earlier snap.base) (take i snap.commands) (this ∷ [])) in
      let runs : settle (map (earlier snap.base) (take i snap.commands) ++ x ∷ []) (proposed_by_arrival x (replicate n [])) ≡ replicate n [] =
      ap (settle (map (earlier snap.base) (take i snap.commands) ++ x ∷ [])) (none-late x n) ∙ none-settled (map (earlier snap.base) (take i snap.commands) ++ x ∷ []) n in
      let m = many in
      let more : length (take (i + 1) snap.commands) ≡ i + 1 = length-take-le (i + 1) snap.commands (omega arith) in
      let spare : (room - length (take i snap.commands)) - 1 ≡ room - length (take (i + 1) snap.commands) = omega arith in
      after-taken sofar x more-new more-due
      ∙ (λ j. record (opened_with snap plans room keep []) {
        left = record (opened_with snap plans room keep []).left { accepted = told j; runs = runs j };
        spare = spare j;
      })

-- all have come
pub all-came :
    {W : Type 0} (snap : SessionSnapshot W) (plans : List Schedule) (room keep i : ℕ) → length snap.commands ≤ i
    → opened_with snap plans room keep (take i snap.commands) ≡ opened_at snap plans room keep
all-came snap plans room keep i past = ap (opened_with snap plans room keep) (take_all i snap.commands past)

-- ---- beside the mirror that remembers all

each-told : (b : ℕ) (xs : List Command) → AllByRecursion (λ x. b ≤ x.time) xs → map (later b) (map (earlier b) xs) ≡ xs
each-told b [] due = refl
each-told b (x ∷ xs) due =
    ap (λ (y : Command). y ∷ map (later b) (map (earlier b) xs)) (command-later-earlier b x due.0)
    ∙ ap (λ (l : List Command). x ∷ l) (each-told b xs due.1)

same-each : {X Y : Type 0} (y : Y) (xs : List X) → map (λ x. y) xs ≡ replicate (length xs) y
same-each y [] = refl
same-each {X} {Y} y (x ∷ xs) = ap (λ (l : List Y). y ∷ l) (same-each y xs)

map-replicate : {X Y : Type 0} (f : X → Y) (n : ℕ) (x : X) → map f (replicate n x) ≡ replicate n (f x)
map-replicate f zero x = refl
map-replicate {X} {Y} f (suc n) x = ap (λ (l : List Y). f x ∷ l) (map-replicate f n x)

pub joined-window :
    {W : Type 0} (rules : Rules W) (snap : SessionSnapshot W) (plans : List Schedule) (room keep : ℕ) (r : RollState W)
    → r ≡ opened_at snap plans room keep → 0 < copies_of_first plans → IsOpenable snap plans room
    → (whole : MirrorState W) → IsSnapshotOf rules whole snap → whole.plans ≡ delays_of_each plans
    → length whole.runs ≡ copies_of_first plans
    → IsWindowOf rules (rolled_back whole) r
joined-window {W} rules snap plans room keep r is some fits_all whole of same copies =
    let n = copies_of_first plans in
    let front = ordered whole.accepted 0 snap.base in
    let base : snap.base ≡ last_clock whole.runs = ap (λ (s : SessionSnapshot W). s.base) of.parts in
    let clock : snap.clock ≡ whole.clock = ap (λ (s : SessionSnapshot W). s.clock) of.parts in
    let world : snap.world ≡ world_of rules whole.opening (last_of [] whole.runs) = ap (λ (s : SessionSnapshot W). s.world) of.parts in
    let commands : snap.commands ≡ due_from (last_clock whole.runs) whole.accepted = ap (λ (s : SessionSnapshot W). s.commands) of.parts in
    let last : last_of [] whole.runs ≡ front = of.last_ordered ∙ ap (ordered whole.accepted 0) (sym base) in
    let behind = fits_all.behind_clock in
    let many = length-replicate {A = List Item} n [] in
    subst (IsWindowOf rules (rolled_back whole)) (sym is) (record {
      some_copy = omega arith;
      opening = world ∙ ap (world_of rules whole.opening) last;
      plans = sym same;
      plan = ap (λ (s : SessionSnapshot W). s.plan) of.parts;
      clock = omega arith;
      accepted =
          ap (λ (b : ℕ). filter (λ x. leb b x.time) whole.accepted) base
          ∙ sym commands
          ∙ sym (each-told snap.base snap.commands fits_all.due);
      runs =
          same-each (last_of [] whole.runs) whole.runs
          ∙ ap (λ (m : ℕ). replicate m (last_of [] whole.runs)) copies
          ∙ ap (λ (l : List Item). replicate n l) (last ∙ sym (append-nil front))
          ∙ sym (map-replicate (whole_run front snap.base) n []);
    })

-- ---- what is handed over

-- the last copy's run
last-run : (runs : List (List Item)) (copies : ℕ) → copies ≡ length runs → 0 < length runs → get_or runs (copies - 1) [] ≡ last_of [] runs
unfolding last_of
last-run [] copies many some = absurd (omega arith)
last-run (run ∷ runs) copies many some =
    let back : copies - 1 ≡ length runs = omega arith in
    rw back (sym (last_of-at run [] runs))

due-kept : (t b n : ℕ) (xs : List Command) → AllByRecursion (λ x. x.time < n) xs → AllByRecursion (λ x. b + x.time < 2 ^ 32) xs
    → AllByRecursion (λ x. (b + t ≤ x.time) × ((x.time < b + n) × (x.time < 2 ^ 32))) (map (later b) (due_from t xs))
due-kept t b n [] h k = tt
due-kept t b n (x ∷ xs) h k =
    let rest = due-kept t b n xs h.1 k.1 in
    let fits = h.0 in
    let short = k.0 in
    elim (leb t x.time) as (λ v. leb t x.time ≡ v → AllByRecursion (λ (y : Command). (b + t ≤ y.time) × ((y.time < b + n) × (y.time < 2 ^ 32))) (map (later b) (cond v (x ∷ due_from t xs) (due_from t xs)))) [
      | true ↦ λ e. (let due : t ≤ x.time = grind (arith, nat_tests) in ((omega arith, (omega arith, omega arith)), rest))
      | false ↦ λ e. rest
    ]
    refl

names-later : (n : ℕ) (xs : List Command) → NamesDiffer xs → NamesDiffer (map (later n) xs)
unfolding NamesDiffer same_name
names-later n [] differ = tt
names-later n (x ∷ xs) differ =
    (all-to_map (λ y. same_name (later n x) y ≡ false) (later n) xs differ.0, names-later n xs differ.1)

-- as the code makes it
pub handed-over :
    {W : Type 0} (rules : Rules W) {i r : RollState W} (copies passed base clock : ℕ) (world : W) (commands : List Command)
    → i ≡ r → copies ≡ length r.left.runs → 0 < length r.left.runs → passed ≡ last_clock r.left.runs
    → base ≡ i.base + passed → clock ≡ i.base + i.left.clock
    → world ≡ world_from rules r.base r.left.opening (get_or r.left.runs (copies - 1) [])
    → commands ≡ map (later i.base) (due_from passed i.left.accepted)
    → record { base = base; clock = clock; plan = i.left.plan; world = world; commands = commands } ≡ snapshot_of rules r
handed-over {W} rules {i = i} {r = r} copies passed base clock world commands view many some last at now made due =
    let here : length i.left.runs ≡ length r.left.runs = ap (λ (s : RollState W). length s.left.runs) view in
    let its : passed ≡ last_clock i.left.runs = last ∙ sym (ap (λ (s : RollState W). last_clock s.left.runs) view) in
    let run = last-run r.left.runs copies (omega arith) (omega arith) in
    let whole_world : world ≡ (snapshot_of rules i).world = made ∙ ap (world_from rules r.base r.left.opening) run ∙ sym (ap (λ (s : RollState W). (snapshot_of rules s).world) view) in
    (λ j. record {
      base = (at ∙ ap (λ (n : ℕ). i.base + n) its) j;
      clock = now j;
      plan = i.left.plan;
      world = whole_world j;
      commands = (due ∙ ap (λ (n : ℕ). map (later i.base) (due_from n i.left.accepted)) its) j;
    })
    ∙ ap (snapshot_of rules) view

-- another mirror can be opened from it
snapshot-openable :
    {W : Type 0} (rules : Rules W) (r : RollState W) (its : List Schedule) (names : NamesOfTree) (start : ℕ) → IsRolling r its names start
    → length r.left.plans ≡ length its → NamesDiffer r.left.accepted → AllByRecursion (λ x. x.time < r.left.length) r.left.accepted
    → (plans : List Schedule) (room : ℕ) → ticks_of_first plans ≡ r.left.length → length plans ≡ length r.left.plans
    → length (snapshot_of rules r).commands ≤ room
    → IsOpenable (snapshot_of rules r) plans room
snapshot-openable rules r its names start h as_many differ due plans room ticks many enough =
    let k = last_clock r.left.runs in
    let kept = due-kept k r.base r.left.length r.left.accepted due h.due_in_session in
    let commands = map (later r.base) (due_from k r.left.accepted) in
    let Known = λ (x : Command). (r.base + k ≤ x.time) × ((x.time < r.base + r.left.length) × (x.time < 2 ^ 32)) in
    let behind = last-behind h in
    let within = h.within_window in
    let there = h.plans_are.in_force in
    record {
      in_force = omega arith;
      behind_clock = omega arith;
      reaches_clock = omega arith;
      in_session = h.within_session;
      due = all-weaker Known (λ x. r.base + k ≤ x.time) commands (λ x f. f.0) kept;
      reached = all-weaker Known (λ x. x.time < (r.base + k) + ticks_of_first plans) commands (λ x f. (let far = f.1.0 in omega arith)) kept;
      due_in_session = all-weaker Known (λ x. x.time < 2 ^ 32) commands (λ x f. f.1.1) kept;
      names = names-later r.base (due_from k r.left.accepted) (NamesDiffer-filter (λ x. leb k x.time) r.left.accepted differ);
      room_for_all = enough;
    }

pub openable-of :
    {W : Type 0} (rules : Rules W) {i r : RollState W} {its : List Schedule} {names : NamesOfTree} {start : ℕ} → i ≡ r → IsRolling i its names start
    → i.left.plans ≡ delays_of_each its → NamesDiffer i.left.accepted → AllByRecursion (λ x. x.time < i.left.length) i.left.accepted
    → (plans : List Schedule) (room : ℕ) → ticks_of_first plans ≡ r.left.length → length plans ≡ length r.left.plans
    → length (snapshot_of rules r).commands ≤ room
    → IsOpenable (snapshot_of rules r) plans room
openable-of {W} rules {i = i} {r = r} {its = its} {names = names} {start = start} view h same differ due =
    let as_many : length i.left.plans ≡ length its = ap length same ∙ length-map its (λ plan. plan.delays) in
    subst (λ (s : RollState W). (plans : List Schedule) (room : ℕ) → ticks_of_first plans ≡ s.left.length → length plans ≡ length s.left.plans
    → length (snapshot_of rules s).commands ≤ room
    → IsOpenable (snapshot_of rules s) plans room) view (snapshot-openable rules i its names start h as_many differ due)

-- commands that are due from a tick on, of those that are due from an earlier one on
due-again : (b k : ℕ) (all left : List Command) → filter (λ x. leb b x.time) all ≡ map (later b) left
    → map (later b) (due_from k left) ≡ due_from (b + k) all
due-again b k all left same =
    sym (later-due b k left)
    ∙ sym (ap (filter (λ (x : Command). leb (b + k) x.time)) same)
    ∙ filter-through (λ (x : Command). leb (b + k) x.time) (λ x. leb b x.time) (λ x. grind (arith, nat_tests)) all
  where
    later-due : (b k : ℕ) (xs : List Command) → filter (λ x. leb (b + k) x.time) (map (later b) xs) ≡ map (later b) (due_from k xs)
    later-due b k [] = refl
    later-due b k (x ∷ xs) =
        let e : leb (b + k) (x.time + b) ≡ leb k x.time = grind (arith, nat_tests) in
        rw e
        (elim (leb k x.time) as (λ v. cond v (later b x ∷ filter (λ y. leb (b + k) y.time) (map (later b) xs)) (filter (λ y. leb (b + k) y.time) (map (later b) xs))
        ≡ map (later b) (cond v (x ∷ due_from k xs) (due_from k xs))) [
          | true ↦ ap (λ (l : List Command). later b x ∷ l) (later-due b k xs)
          | false ↦ later-due b k xs
        ])

-- and it is that of each mirror that remembers all
pub snapshot-window :
    {W : Type 0} (rules : Rules W) (r : RollState W) → IsTrailing r.left.accepted r.left.runs
    → (whole : MirrorState W) → IsWindowOf rules whole r → IsSnapshotOf rules whole (snapshot_of rules r)
snapshot-window {W} rules r trailing whole h =
    let k = last_clock r.left.runs in
    let front = ordered whole.accepted 0 r.base in
    let last = last-clocks rules r.base whole r.left h in
    let ordered_last = last-ordered rules r.base whole r.left h trailing in
    let run : last_of [] whole.runs ≡ whole_run front r.base (last_of [] r.left.runs) =
    ap (last_of []) h.runs ∙ last-of-whole front r.base r.left.runs h.some_copy in
    let clock : r.base + r.left.clock ≡ whole.clock = (let c = h.clock in omega arith) in
    record {
      parts = λ j. record {
        base = sym last j;
        clock = clock j;
        plan = h.plan j;
        world =
            (world_of-whole rules r.base whole.opening r.left.opening front (last_of [] r.left.runs) h.opening
            ∙ ap (world_of rules whole.opening) (sym run)) j;
        commands =
            (due-again r.base k whole.accepted r.left.accepted h.accepted
            ∙ ap (λ (n : ℕ). due_from n whole.accepted) (sym last)) j;
      };
      last_ordered = ordered_last;
    }
