-- What a peer hands over opens the mirror of a joiner that doesn't refuse it.
use Rattle.std.proofs.Common.{◌≡◌, ℕ, zero, suc, ◌+◌, ◌*◌, ◌≤◌, ◌<◌, ◌^◌, Bool, true, false, cond, nat_le, nat_lt, Some, None, List, [], ◌∷◌, map, filter, drop, length, refl, ap, sym, ◌∙◌, subst, arith}
use Rattle.std.proofs.Math.ListN.{length-append}
use Rattle.std.proofs.Math.Nat.{suc-mul}
use Rattle.std.proofs.lemmas.Bool.{or_parts, ltb-false, false≢true}
use Rattle.std.proofs.lemmas.Bool.Decides.{nat_tests}
use Rattle.std.proofs.lemmas.List.{length-map}
use Rattle.std.proofs.lemmas.Option.{none-some}
use Rattle.std.specs.List.{AllByRecursion, range_with_len, list_any}
use Rattle.game_trait.specs.declared.command.Command.{Command}
use Rattle.game_trait.specs.Game.{Rules}
use Rattle.game_trait.specs.Keys.{NamesDiffer}
use Rattle.game_trait.specs.Run.{beats}
use Rattle.game_trait.proofs.KeyOrder.{NamesDiffer-same, NamesDiffer-filter}
use Rattle.sync_model.specs.Schedule.{Schedule, ticks_of_first}
use Rattle.rolling_mirror.specs.Rolling.{last_tick}
use Rattle.rolling_mirror.specs.Snapshot.{IsOpenable}
use Rattle.peer_model.specs.Queue.{Sent, Queue, new_queue, have_of, front_before, trimmed, TimesRise}
use Rattle.peer_model.specs.Peer.{Peer, numbered, bound_of, IsPeer}
use Rattle.peer_window.specs.Window.{IsWindow}
use Rattle.peer_packet.specs.Packet as wire
use Rattle.peer_packet.specs.Snapshot as snapshot
use Rattle.peer_calls.specs.declared.config.Config.{Config}
use Rattle.peer_calls.specs.declared.answers.JoinRefusal.TheVariants.{Used, TooFar, TooMany}
use Rattle.peer_calls.specs.State.{State, window_of}
use Rattle.peer_calls.specs.Wire.{as_sent}
use Rattle.peer_calls.specs.Handing.{arriving, queue_handed, queues_taken, handed_by, opened_from, is_used, is_far, is_crowded, join_refused}
use Rattle.peer_join.specs.Join.{accepted_by}
use Rattle.peer_join.proofs.Joins.{last-has}
use Rattle.peer_join.proofs.Same.{trimmed-due, accepted-same}
use Rattle.peer_join.proofs.Taken.{trimmed-new, ltb-zero, all-taken}
use Rattle.peer_join.proofs.Handed.{arriving-all, accepted-due, base-same, commands-same}

-- ---- what isn't refused

pub refused-none : (u f r : Bool) → cond u (Some Used) (cond f (Some TooFar) (cond r (Some TooMany) None)) ≡ None → (f ≡ false) × (r ≡ false)
refused-none true f r is = absurd (none-some Used (sym is))
refused-none false true r is = absurd (none-some TooFar (sym is))
refused-none false false true is = absurd (none-some TooMany (sym is))
refused-none false false false is = (refl, refl)

-- where none of the chosen passes a test
any-here :
    {Y : Type 0} (p : Y → Bool) (f : ℕ → Y) (g : ℕ → Bool) (a : ℕ) (rest : List ℕ) (v : Bool) → g a ≡ v
    → list_any p (map f (filter g (a ∷ rest))) ≡ false → (v ≡ true → p (f a) ≡ false) × (list_any p (map f (filter g rest)) ≡ false)
any-here {Y} p f g a rest true e none =
    let parts = or_parts (p (f a)) (list_any p (map f (filter g rest))) (sym (ap (λ (b : Bool). list_any p (map f (cond b (a ∷ filter g rest) (filter g rest)))) e) ∙ none) in
    (λ here. parts.0, parts.1)
any-here {Y} p f g a rest false e none =
    (λ here. absurd (false≢true here), sym (ap (λ (b : Bool). list_any p (map f (cond b (a ∷ filter g rest) (filter g rest)))) e) ∙ none)

any-each :
    {Y : Type 0} (p : Y → Bool) (f : ℕ → Y) (g : ℕ → Bool) (a n : ℕ) → list_any p (map f (filter g (range_with_len a n))) ≡ false
    → (o : ℕ) → o < n → g (a + o) ≡ true → p (f (a + o)) ≡ false
any-each p f g a zero none o within chosen = absurd (omega arith)
any-each p f g a (suc n) none zero within chosen =
    let at : a ≡ a + 0 = omega arith in
    let here = any-here p f g a (range_with_len (a + 1) n) (g a) refl none in
    ap (λ (k : ℕ). p (f k)) (sym at) ∙ here.0 (ap g at ∙ chosen)
any-each p f g a (suc n) none (suc o) within chosen =
    let at : (a + 1) + o ≡ a + suc o = omega arith in
    let here = any-here p f g a (range_with_len (a + 1) n) (g a) refl none in
    ap (λ (k : ℕ). p (f k)) (sym at) ∙ any-each p f g (a + 1) n here.1 o (omega arith) (ap g at ∙ chosen)

-- what holds of each queue that is handed over, and of a new one, holds of all
each-handed :
    (P : Queue → Type 0) (p : snapshot.Queue → Bool) (b slots : ℕ) (queues : ℕ → Queue) → ((o : ℕ) → have_of (queues o) ≡ 0 → queues o ≡ new_queue)
    → P new_queue → ((q : Queue) → p (queue_handed q) ≡ false → P q)
    → list_any p (map (λ o. queue_handed (trimmed b (queues o))) (filter (λ o. nat_lt 0 (have_of (queues o))) (range_with_len 0 slots))) ≡ false
    → (o : ℕ) → o < slots → P (trimmed b (queues o))
each-handed P p b slots queues none new has refused o within =
    elim (nat_lt 0 (have_of (queues o))) as (λ v. nat_lt 0 (have_of (queues o)) ≡ v → P (trimmed b (queues o))) [
      | true ↦ λ e. (let at : 0 + o ≡ o = omega arith in
          has (trimmed b (queues o))
          (ap (λ (k : ℕ). p (queue_handed (trimmed b (queues k)))) (sym at)
          ∙ any-each p (λ k. queue_handed (trimmed b (queues k))) (λ k. nat_lt 0 (have_of (queues k))) 0 slots refused o within
          (ap (λ (k : ℕ). nat_lt 0 (have_of (queues k))) at ∙ e)))
      | false ↦ λ e. subst P (sym (ap (trimmed b) (none o (ltb-zero (have_of (queues o)) e)) ∙ trimmed-new b)) new
    ]
    refl

below-all : (limit : ℕ) (xs : List Sent) → list_any (λ (x : wire.Sent). nat_le limit x.time) (map as_sent xs) ≡ false → AllByRecursion (λ x. x.time < limit) xs
below-all limit [] none = tt
below-all limit (x ∷ xs) none =
    let parts = or_parts (nat_le limit x.time) (list_any (λ (y : wire.Sent). nat_le limit y.time) (map as_sent xs)) none in
    let here = parts.0 in
    (grind (arith, nat_tests), below-all limit xs parts.1)

-- ---- how many there are

pub length-numbered : (o n : ℕ) (xs : List Sent) → length (numbered o n xs) ≡ length xs
unfolding numbered
length-numbered o n [] = refl
length-numbered o n (x ∷ xs) = ap suc (length-numbered o (n + 1) xs)

pub arriving-most : (room : ℕ) (queues : ℕ → Queue) (k : ℕ) → ((o : ℕ) → o < k → length (queues o).commands ≤ room) → length (arriving k queues) ≤ k * room
unfolding arriving
arriving-most room queues zero each = omega arith
arriving-most room queues (suc k) each =
    let before = arriving-most room queues k (λ o below. each o (omega arith)) in
    let here = each k (omega arith) in
    let all = length-append (arriving k queues) (numbered k (queues k).kept (queues k).commands) in
    let its = length-numbered k (queues k).kept (queues k).commands in
    let most = suc-mul k room in
    omega arith

pub all-behind : (P : Sent → Type 0) (n : ℕ) (xs : List Sent) → AllByRecursion P xs → AllByRecursion P (drop n xs)
all-behind P zero xs h = h
all-behind P (suc n) [] h = tt
all-behind P (suc n) (x ∷ xs) h = all-behind P n xs h.1

-- ---- the snapshot

some-plan : (plans : List Schedule) → 0 < ticks_of_first plans → 0 < length plans
some-plan [] ticks = ticks
some-plan (plan ∷ plans) ticks = omega arith

none-behind : (n : ℕ) → beats [] ≤ n
unfolding beats
none-behind n = omega arith

pub handed-opens :
    {W : Type 0} (rules : Rules W) (c : Config) (log : ℕ → List Sent) (m : Peer W) (s : State W) (world : W) (me : ℕ) (plans : List Schedule)
    → ((o : ℕ) → TimesRise 0 (log o)) → IsPeer c.terms.slots log m → IsWindow rules m (window_of s)
    → ((o : ℕ) → c.terms.slots ≤ o → have_of (s.queues o) ≡ 0) → ((o : ℕ) → have_of (s.queues o) ≡ 0 → s.queues o ≡ new_queue)
    → ((o : ℕ) → AllByRecursion (λ x. x.time < 2 ^ 32) (s.queues o).commands)
    → 0 < ticks_of_first plans
    → join_refused c me (ticks_of_first plans) (handed_by c s) ≡ None
    → IsOpenable (opened_from world c (handed_by c s)) plans (c.terms.slots * c.room)
handed-opens rules c log m s world me plans rise peer window past none short ticks goes =
    let slots = c.terms.slots in
    let base = last_tick s.roll in
    let limit = base + ticks_of_first plans in
    let snap = handed_by c s in
    let q = λ (o : ℕ). trimmed base (s.queues o) in
    let mine = λ (o : ℕ). trimmed (bound_of m) (m.queues o) in
    let goes_on = refused-none (is_used me snap) (is_far (ticks_of_first plans) snap) (is_crowded c.room snap) goes in
    let stands = base-same rules m s window in
    let taken : arriving slots (queues_taken snap.have snap.queues) ≡ arriving slots q = ap (arriving slots) (λ i o. all-taken base slots s.queues past none o i) in
    let handed = commands-same rules c m s window past none in
    let last = last-has (λ run. beats run ≤ m.whole.clock) [] m.whole.runs (none-behind m.whole.clock) peer.sound.behind in
    let clock = window.rolled.window.clock in
    let session = window.rolled.in_session in
    let far = λ (o : ℕ) (below : o < slots). each-handed (λ q. AllByRecursion (λ x. x.time < limit) q.commands) (λ q. list_any (λ (x : wire.Sent). nat_le limit x.time) q.commands)
    base slots s.queues none tt (λ q no. below-all limit q.commands no) goes_on.0 o below in
    let few = λ (o : ℕ) (below : o < slots). each-handed (λ q. length q.commands ≤ c.room) (λ q. nat_lt c.room (length q.commands))
    base slots s.queues none (omega arith) (λ q no. (let same = length-map q.commands as_sent in let most = ltb-false c.room (length (map as_sent q.commands)) no in omega arith)) goes_on.1 o below in
    let due = arriving-all (λ t. bound_of m ≤ t) mine slots (λ o below. trimmed-due (bound_of m) (log o) (m.queues o) (rise o) (peer.fronts o)) in
    let names = NamesDiffer-filter (λ x. nat_le (bound_of m) x.time) (accepted_by slots m)
    (NamesDiffer-same m.whole.accepted (accepted_by slots m) (λ p. sym (accepted-same slots log m rise peer p)) peer.sound.names) in
    record {
      in_force = some-plan plans ticks;
      behind_clock = omega arith;
      reaches_clock = omega arith;
      in_session = omega arith;
      due = subst (λ (b : ℕ). AllByRecursion (λ x. b ≤ x.time) (arriving slots (queues_taken snap.have snap.queues))) (sym stands)
          (subst (AllByRecursion (λ x. bound_of m ≤ x.time)) (sym handed) due);
      reached = subst (AllByRecursion (λ x. x.time < limit)) (sym taken) (arriving-all (λ t. t < limit) q slots far);
      due_in_session = subst (AllByRecursion (λ x. x.time < 2 ^ 32)) (sym taken)
          (arriving-all (λ t. t < 2 ^ 32) q slots (λ o below. all-behind (λ x. x.time < 2 ^ 32) (front_before base (s.queues o).commands) (s.queues o).commands (short o)));
      names = subst NamesDiffer (accepted-due slots log m rise peer ∙ sym handed) names;
      room_for_all = subst (λ (l : List Command). length l ≤ slots * c.room) (sym taken) (arriving-most c.room q slots few);
    }
