-- Plans over fewer ticks, and room at a mirror while commands arrive.
use Rattle.std.proofs.Common.{◌≡◌, refl, ◌∙◌, ap, sym, subst, ℕ, ◌+◌, ◌-◌, ◌≤◌, ◌<◌, List, [], ◌∷◌, map, length, length-append, get_or, drop, add-one, drop-cons, arith}
use Rattle.std.proofs.lemmas.List.{length-map}
use Rattle.std.specs.List.{AllByRecursion}
use Rattle.game_trait.specs.declared.command.Command.{Command}
use Rattle.game_trait.specs.declared.event.Event.{Event}
use Rattle.game_trait.specs.declared.event.Event.TheVariants.{Tick, Arrive, Step, Restagger}
use Rattle.game_trait.specs.declared.limits.TheConstants.{MOST_ROOM}
use Rattle.sync_model.specs.Schedule.{Schedule, delays_of_each, ticks_of_first, copies_of_first}
use Rattle.sync_model.specs.State.{MirrorState, opening_state}
use Rattle.sync_model.specs.Change.{next, after, turned_away}
use Rattle.sync_model.specs.History.{HasRoom}
use Rattle.sync_model.proofs.Cases.{tick-cases, arrive-cases, step-cases, restagger-cases, next-fixed, after-fixed}
use Rattle.late_joiner.specs.declared.handed.Snapshot.{Snapshot}
use Rattle.game_trait.specs.Shifted.{ShiftedWorld, from_start}
use Rattle.late_joiner.specs.Plans.{lasting_each}
use Rattle.late_joiner.specs.Joiner.{JoinerState, arrival_from, opened, IsInRoom}

-- ---- plans

pub lasting-delays : (ticks : ℕ) (plans : List Schedule) → delays_of_each (lasting_each ticks plans) ≡ delays_of_each plans
lasting-delays ticks [] = refl
lasting-delays ticks (plan ∷ plans) = ap (λ (ds : List (List ℕ)). plan.delays ∷ ds) (lasting-delays ticks plans)

pub lasting-first : (ticks : ℕ) (plans : List Schedule) → 0 < length plans → ticks_of_first (lasting_each ticks plans) ≡ ticks
lasting-first ticks [] some = absurd (omega arith)
lasting-first ticks (plan ∷ plans) some = refl

pub lasting-copies : (ticks : ℕ) (plans : List Schedule) → copies_of_first (lasting_each ticks plans) ≡ copies_of_first plans
lasting-copies ticks [] = refl
lasting-copies ticks (plan ∷ plans) = refl

pub lasting-ticks : (ticks : ℕ) (plans : List Schedule) → AllByRecursion (λ plan. plan.length ≡ ticks) (lasting_each ticks plans)
lasting-ticks ticks [] = tt
lasting-ticks ticks (plan ∷ plans) = (refl, lasting-ticks ticks plans)

pub lasting-each_copies :
    (ticks copies : ℕ) (plans : List Schedule) → AllByRecursion (λ plan. length plan.delays ≡ copies) plans
    → AllByRecursion (λ plan. length plan.delays ≡ copies) (lasting_each ticks plans)
lasting-each_copies ticks copies [] h = tt
lasting-each_copies ticks copies (plan ∷ plans) h = (h.0, lasting-each_copies ticks copies plans h.1)

pub lasting-equal_ticks :
    (ticks : ℕ) (plans : List Schedule) → 0 < length plans
    → AllByRecursion (λ plan. plan.length ≡ ticks_of_first (lasting_each ticks plans)) (lasting_each ticks plans)
lasting-equal_ticks ticks plans some =
    subst (λ (n : ℕ). AllByRecursion (λ plan. plan.length ≡ n) (lasting_each ticks plans)) (sym (lasting-first ticks plans some)) (lasting-ticks ticks plans)

pub lasting-equal_copies :
    (ticks : ℕ) (plans : List Schedule) → AllByRecursion (λ plan. length plan.delays ≡ copies_of_first plans) plans
    → AllByRecursion (λ plan. length plan.delays ≡ copies_of_first (lasting_each ticks plans)) (lasting_each ticks plans)
lasting-equal_copies ticks plans same =
    subst (λ (n : ℕ). AllByRecursion (λ plan. length plan.delays ≡ n) (lasting_each ticks plans)) (sym (lasting-copies ticks plans)) (lasting-each_copies ticks (copies_of_first plans) plans same)

pub first-ticks : (plans : List Schedule) (d : Schedule) → 0 < length plans → (get_or plans 0 d).length ≡ ticks_of_first plans
first-ticks [] d some = absurd (omega arith)
first-ticks (plan ∷ plans) d some = refl

-- ---- arrivals, one after another

-- an arrival uses up room for one at most
pub spare-arrived : {W : Type 0} (s : MirrorState W) (x : Command) → s.spare ≤ (next s (Arrive x)).spare + 1
spare-arrived s x = arrive-cases s x (λ t r. s.spare ≤ t.spare + 1) (λ e. omega arith) (λ e l. omega arith) (λ e l. omega arith)

-- one more of them arrived
pub arrived-next :
    {W : Type 0} (start : ℕ) (xs : List Command) (i : ℕ) (d : Command) (s t : MirrorState W) (time : ℕ) → i < length xs
    → time ≡ (get_or xs i d).time - start → t ≡ next s (Arrive (record (get_or xs i d) { time = time }))
    → after t (map (arrival_from start) (drop (i + 1) xs)) ≡ after s (map (arrival_from start) (drop i xs))
unfolding after
arrived-next {W} start xs i d s t time within at is =
    ap (λ (u : MirrorState W). after u (map (arrival_from start) (drop (i + 1) xs)))
    (is ∙ ap (λ (n : ℕ). next s (Arrive (record (get_or xs i d) { time = n }))) at)
    ∙ rw (add-one, drop-cons xs i d within) refl

-- and it used up room for one at most
pub arrived-room :
    {W : Type 0} (s t : MirrorState W) (x : Command) (n i : ℕ) → t ≡ next s (Arrive x) → n - i ≤ s.spare → i < n
    → n - (i + 1) ≤ t.spare
arrived-room s t x n i is room within = (let left = spare-arrived s x in rw is (omega arith))

pub arrived-length : {W : Type 0} (s t : MirrorState W) (x : Command) → t ≡ next s (Arrive x) → t.length ≡ s.length
arrived-length s t x is = ap (λ u. u.length) is ∙ (next-fixed s (Arrive x)).length

-- ---- room

-- what a mirror took and turned away, and what there is room for
abbrev pub held : {W : Type 0} → MirrorState W → ℕ
held s = length s.accepted + length s.turned + s.spare

-- no event makes that more
pub held-next : {W : Type 0} (s : MirrorState W) (e : Event) → HasRoom s e → held (next s e) ≤ held s
held-next s Tick room = tick-cases s (λ t r. held t ≤ held s) (λ e. omega arith) (λ e. omega arith)
held-next s (Step c) room = step-cases s c (λ t r. held t ≤ held s) (λ e. omega arith) (λ e. omega arith)
held-next s (Restagger p) room = restagger-cases s p (λ t r. held t ≤ held s) (omega arith)
held-next s (Arrive x) room =
    arrive-cases s x (λ t r. held t ≤ held s) (λ e. omega arith)
    (λ e l. (let more = length-append s.turned (turned_away s x ∷ []) in omega arith))
    (λ e l. (let more = length-append s.accepted (x ∷ []) in omega arith))

pub held-arrived :
    {W : Type 0} (k : ℕ) (xs : List Command) (s : MirrorState W) → length xs ≤ s.spare
    → held (after s (map (arrival_from k) xs)) ≤ held s
unfolding after
held-arrived k [] s room = omega arith
held-arrived k (x ∷ xs) s room =
    let one = held-next s (arrival_from k x) (omega arith) in
    let left = spare-arrived s (record x { time = x.time - k }) in
    let more = held-arrived k xs (next s (arrival_from k x)) (omega arith) in
    omega arith

pub opened-in_room :
    {W : Type 0} (snap : Snapshot W) (plans : List Schedule) (room restaggers : ℕ) → length snap.rest ≤ room
    → room ≤ MOST_ROOM → IsInRoom (opened snap plans room restaggers)
unfolding after next
opened-in_room snap plans room restaggers rest few =
    let start = opening_state (from_start snap.clock snap.world) (ticks_of_first plans - snap.clock) (delays_of_each plans) room restaggers in
    let all = held-arrived snap.clock snap.rest (next start (Restagger snap.plan)) rest in
    omega arith

-- ---- what a joiner has as it opens

-- no arrival changes the room for changes of the plan
plans-arrived : {W : Type 0} (s : MirrorState W) (x : Command) → (next s (Arrive x)).plan_spare ≡ s.plan_spare
plans-arrived s x = arrive-cases s x (λ t r. t.plan_spare ≡ s.plan_spare) (λ e. refl) (λ e l. refl) (λ e l. refl)

-- all that arrive use up room for one each at most, and no room for a change of the plan
room-arrived :
    {W : Type 0} (k : ℕ) (xs : List Command) (s : MirrorState W)
    → (s.spare ≤ (after s (map (arrival_from k) xs)).spare + length xs)
    × ((after s (map (arrival_from k) xs)).plan_spare ≡ s.plan_spare)
unfolding after
room-arrived k [] s = (omega arith, refl)
room-arrived k (x ∷ xs) s =
    let one = spare-arrived s (record x { time = x.time - k }) in
    let more = room-arrived k xs (next s (arrival_from k x)) in
    let left = more.0 in
    (omega arith, more.1 ∙ plans-arrived s (record x { time = x.time - k }))

-- it stands at the snapshot's clock and has the ticks that are left, the plans, and as many copies
-- as the first of them; of its room the rest used up one each at most, and the snapshot's plan one
-- change
pub record HasOpened {W : Type 0} (snap : Snapshot W) (plans : List Schedule) (room restaggers : ℕ) (s : JoinerState W) : Type 0 where
  pub start : s.start ≡ snap.clock
  pub ticks : s.inner.length ≡ ticks_of_first plans - snap.clock
  pub copies : length s.inner.runs ≡ copies_of_first plans
  pub plans_are : s.inner.plans ≡ delays_of_each plans
  pub arrivals : room ≤ s.inner.spare + length snap.rest
  pub changes : restaggers ≤ s.inner.plan_spare + 1

first-copies :
    {V : Type 0} (w : V) (n : ℕ) (plans : List Schedule) (room restaggers : ℕ)
    → length (opening_state w n (delays_of_each plans) room restaggers).runs ≡ copies_of_first plans
first-copies w n [] room restaggers = refl
first-copies w n (plan ∷ plans) room restaggers = length-map plan.delays (λ delay. [])

pub opened-room :
    {W : Type 0} (snap : Snapshot W) (plans : List Schedule) (room restaggers : ℕ)
    → HasOpened snap plans room restaggers (opened snap plans room restaggers)
unfolding after next
opened-room {W} snap plans room restaggers =
    let first = from_start snap.clock snap.world in
    let ticks = ticks_of_first plans - snap.clock in
    let begun = opening_state first ticks (delays_of_each plans) room restaggers in
    let parts = after-fixed (Restagger snap.plan ∷ map (arrival_from snap.clock) snap.rest) begun in
    let left = room-arrived snap.clock snap.rest (next begun (Restagger snap.plan)) in
    record {
      start = refl;
      ticks = parts.length;
      copies = parts.copies ∙ first-copies first ticks plans room restaggers;
      plans_are = parts.plans;
      arrivals = left.0;
      changes = (let plans_left = left.1 in omega arith);
    }

-- ---- the joiner as the code opens it

-- the inner mirror is made step by step
pub opened-inner :
    {W : Type 0} (snap : Snapshot W) (plans : List Schedule) (room restaggers ticks : ℕ) (first : ShiftedWorld W)
    (inner moved done : MirrorState (ShiftedWorld W)) (rest : List Command)
    → ticks ≡ ticks_of_first plans → first ≡ from_start snap.clock snap.world
    → inner ≡ opening_state first (ticks - snap.clock) (delays_of_each plans) room restaggers
    → moved ≡ next inner (Restagger snap.plan) → rest ≡ snap.rest
    → done ≡ after moved (map (arrival_from snap.clock) rest) → done ≡ (opened snap plans room restaggers).inner
unfolding after
opened-inner {W} snap plans room restaggers ticks first inner moved done rest length begun opens moves due arrives =
    let events = map (arrival_from snap.clock) snap.rest in
    arrives
    ∙ ap (λ (xs : List Command). after moved (map (arrival_from snap.clock) xs)) due
    ∙ ap (λ (s : MirrorState (ShiftedWorld W)). after s (map (arrival_from snap.clock) snap.rest))
    (moves
    ∙ ap (λ (s : MirrorState (ShiftedWorld W)). next s (Restagger snap.plan))
    (opens
    ∙ ap (λ (w : ShiftedWorld W). opening_state w (ticks - snap.clock) (delays_of_each plans) room restaggers) begun
    ∙ ap (λ (n : ℕ). opening_state (from_start snap.clock snap.world) (n - snap.clock) (delays_of_each plans) room restaggers) length))

-- before the rest arrives it has the remaining ticks, and all its room
pub moved-parts :
    {V : Type 0} (w : V) (n plan : ℕ) (plans : List (List ℕ)) (room restaggers : ℕ) (inner moved : MirrorState V)
    → inner ≡ opening_state w n plans room restaggers → moved ≡ next inner (Restagger plan)
    → (moved.length ≡ n) × (moved.spare ≡ room)
unfolding next
moved-parts {V} w n plan plans room restaggers inner moved opens moves =
    let is = moves ∙ ap (λ (s : MirrorState V). next s (Restagger plan)) opens in
    (ap (λ (s : MirrorState V). s.length) is, ap (λ (s : MirrorState V). s.spare) is)

-- the parts together
pub opened-parts :
    {W : Type 0} (snap : Snapshot W) (plans : List Schedule) (room restaggers : ℕ) (passed : List Command)
    (inner : MirrorState (ShiftedWorld W)) → passed ≡ snap.passed → inner ≡ (opened snap plans room restaggers).inner
    → record { opening = snap.opening; start = snap.clock; passed = passed; inner = inner } ≡ opened snap plans room restaggers
opened-parts snap plans room restaggers passed inner old is = λ i. record {
  opening = snap.opening;
  start = snap.clock;
  passed = old i;
  inner = is i;
}

-- what is due from the clock on and within the match is due within the remaining ticks
pub rest-within :
    (k ticks n : ℕ) (xs : List Command) → n ≡ ticks - k → AllByRecursion (λ x. k ≤ x.time) xs
    → AllByRecursion (λ x. x.time < ticks) xs → AllByRecursion (λ x. x.time - k < n) xs
rest-within k ticks n [] is due within = tt
rest-within k ticks n (x ∷ xs) is due within =
    ((let d : k ≤ x.time = due.0 in let w : x.time < ticks = within.0 in omega arith), rest-within k ticks n xs is due.1 within.1)
