-- A snapshot that was read and isn't refused opens a mirror.
use Rattle.std.proofs.Common.{◌≡◌, ℕ, ◌+◌, ◌*◌, ◌≤◌, ◌<◌, ◌^◌, false, nat_lt, None, List, [], ◌∷◌, map, length, refl, arith}
use Rattle.std.specs.Prelude.{nat_le}
use Rattle.std.specs.List.{AllByRecursion, list_any}
use Rattle.std.proofs.lemmas.Bool.{and_parts, or_parts, leb-true, ltb-false}
use Rattle.std.proofs.lemmas.Bool.Decides.{nat_tests}
use Rattle.std.proofs.lemmas.List.{length-map}
use Rattle.sync_model.specs.Schedule.{Schedule, ticks_of_first}
use Rattle.rolling_mirror.specs.Rolling.{LetsTurnsGoOn}
use Rattle.rolling_mirror.specs.Snapshot.{IsOpenable}
use Rattle.peer_packet.specs.Packet.{IsSent, AreSent}
use Rattle.peer_packet.specs.Packet as wire
use Rattle.peer_packet.specs.Snapshot.{IsSnapshot, AreQueues, issued}
use Rattle.peer_packet.specs.Snapshot as snapshot
use Rattle.peer_calls.specs.declared.config.Config.{Config}
use Rattle.peer_calls.specs.Wire.{sent_from}
use Rattle.peer_calls.specs.Handing.{queues_taken, is_used, is_far, is_crowded, join_refused, opened_from}
use Rattle.peer_join.proofs.Fits.{arriving-most, refused-none}
use Rattle.peer_join.proofs.Handed.{arriving-all}
use Rattle.peer_slots.proofs.Opens.{each-taken}
use Rattle.peer_opening.proofs.Names.{arriving-differ}

-- ---- commands of a snapshot

sent-due : (payload t base : ℕ) (cs : List wire.Sent) → base ≤ t → AreSent payload t cs → AllByRecursion (λ x. base ≤ x.time) (map sent_from cs)
sent-due payload t base [] low h = tt
sent-due payload t base (c ∷ cs) low h =
    let on = leb-true t c.time (and_parts (nat_le t c.time) (nat_le (length c.payload) payload) h.0.follows).0 in
    (omega arith, sent-due payload c.time base cs (omega arith) h.1)

sent-in_session : (payload t : ℕ) (cs : List wire.Sent) → AreSent payload t cs → AllByRecursion (λ x. x.time < 2 ^ 32) (map sent_from cs)
sent-in_session payload t [] h = tt
sent-in_session payload t (c ∷ cs) h = (h.0.time, sent-in_session payload c.time cs h.1)

sent-short : (payload t : ℕ) (cs : List wire.Sent) → AreSent payload t cs → AllByRecursion (λ x. length x.bytes ≤ payload) (map sent_from cs)
sent-short payload t [] h = tt
sent-short payload t (c ∷ cs) h =
    (leb-true (length c.payload) payload (and_parts (nat_le t c.time) (nat_le (length c.payload) payload) h.0.follows).1, sent-short payload c.time cs h.1)

none-far : (limit : ℕ) (cs : List wire.Sent) → list_any (λ (x : wire.Sent). nat_le limit x.time) cs ≡ false → AllByRecursion (λ x. x.time < limit) (map sent_from cs)
none-far limit [] none = tt
none-far limit (c ∷ cs) none =
    let parts = or_parts (nat_le limit c.time) (list_any (λ (x : wire.Sent). nat_le limit x.time) cs) none in
    let here = parts.0 in
    (grind (arith, nat_tests), none-far limit cs parts.1)

none-passes : (qs : List snapshot.Queue) → list_any (λ (q : snapshot.Queue). false) qs ≡ false
none-passes [] = refl
none-passes (q ∷ qs) = none-passes qs

-- a joiner remembers no command with more bytes than its session allows
pub taken-short : (payload base : ℕ) (have : List ℕ) (qs : List snapshot.Queue) → AreQueues payload base (issued have) qs
    → (o : ℕ) → AllByRecursion (λ x. length x.bytes ≤ payload) (queues_taken have qs o).commands
taken-short payload base have qs h =
    each-taken (λ q. AllByRecursion (λ x. length x.bytes ≤ payload) q.commands) (λ q. false) payload base have qs tt
    (λ n q is no. sent-short payload base q.commands is.commands) h (none-passes qs)

-- ---- the snapshot

pub goes-ticks : (plans : List Schedule) → 0 < length plans → AllByRecursion LetsTurnsGoOn plans → 0 < ticks_of_first plans
goes-ticks [] some on = some
goes-ticks (plan ∷ plans) some on = (let here = on.0 in omega arith)

pub read-opens :
    {W : Type 0} (c : Config) (snap : snapshot.Snapshot) (world : W) (me : ℕ) (plans : List Schedule)
    → IsSnapshot c.terms snap → 0 < length plans → AllByRecursion LetsTurnsGoOn plans → join_refused c me (ticks_of_first plans) snap ≡ None
    → IsOpenable (opened_from world c snap) plans (c.terms.slots * c.room)
read-opens c snap world me plans h some on goes =
    let slots = c.terms.slots in
    let base = snap.base in
    let payload = c.terms.payload in
    let ticks = goes-ticks plans some on in
    let limit = base + ticks_of_first plans in
    let taken = queues_taken snap.have snap.queues in
    let fits = refused-none (is_used me snap) (is_far (ticks_of_first plans) snap) (is_crowded c.room snap) goes in
    let due = each-taken (λ q. AllByRecursion (λ x. base ≤ x.time) q.commands) (λ q. false) payload base snap.have snap.queues tt
    (λ n q is no. sent-due payload base base q.commands (omega arith) is.commands) h.queues (none-passes snap.queues) in
    let in_session = each-taken (λ q. AllByRecursion (λ x. x.time < 2 ^ 32) q.commands) (λ q. false) payload base snap.have snap.queues tt
    (λ n q is no. sent-in_session payload base q.commands is.commands) h.queues (none-passes snap.queues) in
    let reached = each-taken (λ q. AllByRecursion (λ x. x.time < limit) q.commands) (λ (q : snapshot.Queue). list_any (λ (x : wire.Sent). nat_le limit x.time) q.commands)
    payload base snap.have snap.queues tt (λ n q is no. none-far limit q.commands no) h.queues fits.0 in
    let few = each-taken (λ q. length q.commands ≤ c.room) (λ (q : snapshot.Queue). nat_lt c.room (length q.commands))
    payload base snap.have snap.queues (omega arith)
    (λ n q is no. (let same = length-map q.commands sent_from in let most = ltb-false c.room (length q.commands) no in omega arith)) h.queues fits.1 in
    record {
      in_force = some;
      behind_clock = omega arith;
      reaches_clock = omega arith;
      in_session = h.base;
      due = arriving-all (λ t. base ≤ t) taken slots (λ o below. due o);
      reached = arriving-all (λ t. t < limit) taken slots (λ o below. reached o);
      due_in_session = arriving-all (λ t. t < 2 ^ 32) taken slots (λ o below. in_session o);
      names = arriving-differ slots taken;
      room_for_all = arriving-most c.room taken slots (λ o below. few o);
    }
