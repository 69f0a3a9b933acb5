-- Queues of slots as functions of the slot, where a list of them changes.
use Rattle.std.proofs.Common.{◌≡◌, ℕ, zero, suc, ◌^◌, ◌<◌, ◌≤◌, List, [], ◌∷◌, map, length, get_or, replicate, refl, ap, sym, ◌∙◌, arith}
use Rattle.std.specs.Prelude.{slice_set}
use Rattle.std.proofs.lemmas.List.{length-replicate, get_or_default, length-set, length-map}
use Rattle.peer_model.specs.Queue.{new_queue, have_of, trimmed, front_before, last_time}
use Rattle.peer_calls.specs.Sending.{counts_of}
use Rattle.peer_queue.specs.Room.{QueueInRoom}
use Rattle.peer_slots.specs.Queues.{empty_queue, queues_of, AreQueues, new_queues, with_queue, all_trimmed, trimmed_in_room}
use Rattle.peer_slots.proofs.Slots.{alike, field-put, field-kept, map-at, map-read}

-- ---- before anything was heard

pub queues-new : (slots room : ℕ) → queues_of (record { list = replicate slots (empty_queue room); room = room }) ≡ new_queues slots room
queues-new slots room = λ i. record {
  slots = length-replicate slots (empty_queue room) i;
  room = room;
  queues = λ o. alike (λ (q : QueueInRoom). q.queue) slots o (empty_queue room) (empty_queue room) refl i;
}

pub are-new : (slots room : ℕ) (list : List QueueInRoom) → slots ≤ 64 → list ≡ replicate slots (empty_queue room) → AreQueues (record { list = list; room = room })
are-new slots room list few is = record {
  slots = (let long = ap length is ∙ length-replicate slots (empty_queue room) in omega (arith, long));
  rooms = λ o. ap (λ (l : List QueueInRoom). (get_or l o (empty_queue room)).room) is ∙ alike (λ (q : QueueInRoom). q.room) slots o (empty_queue room) (empty_queue room) refl;
}

-- ---- one queue changes

pub queues-put : (list : List QueueInRoom) (room at : ℕ) (z : QueueInRoom) → at < length list
    → queues_of (record { list = slice_set list at z; room = room }) ≡ with_queue at z.queue (queues_of (record { list = list; room = room }))
queues-put list room at z there = λ i. record {
  slots = length-set list at z i;
  room = room;
  queues = λ o. field-put (λ (q : QueueInRoom). q.queue) list at o z (empty_queue room) there i;
}

pub are-put : (list : List QueueInRoom) (room at : ℕ) (y z : QueueInRoom) → at < length list → y ≡ get_or list at y → z.room ≡ y.room
    → AreQueues (record { list = list; room = room }) → AreQueues (record { list = slice_set list at z; room = room })
are-put list room at y z there read same are = record {
  slots = (let long = length-set list at z in let few = are.slots in omega (arith, long, few));
  rooms = λ o. field-kept (λ (q : QueueInRoom). q.room) list at o z (empty_queue room) there
      (same ∙ ap (λ (q : QueueInRoom). q.room) (read ∙ get_or_default list at y (empty_queue room) there)) ∙ are.rooms o;
}

-- what is read of a slot
pub queue-read : (list : List QueueInRoom) (room at : ℕ) (y : QueueInRoom) → at < length list → y ≡ get_or list at y
    → AreQueues (record { list = list; room = room }) → y ≡ record { queue = (queues_of (record { list = list; room = room })).queues at; room = room }
queue-read list room at y there read are =
    let old = read ∙ get_or_default list at y (empty_queue room) there in
    old ∙ (λ i. record { queue = (get_or list at (empty_queue room)).queue; room = are.rooms at i })

-- ---- all queues change

trimmed-new : (bound : ℕ) → trimmed bound new_queue ≡ new_queue
unfolding front_before last_time
trimmed-new bound = refl

pub queues-trim : (bound room : ℕ) (list : List QueueInRoom)
    → queues_of (record { list = map (trimmed_in_room bound) list; room = room }) ≡ all_trimmed bound (queues_of (record { list = list; room = room }))
queues-trim bound room list =
    let at : (o : ℕ) → get_or (map (trimmed_in_room bound) list) o (empty_queue room) ≡ trimmed_in_room bound (get_or list o (empty_queue room)) =
    λ o. map-at (trimmed_in_room bound) list o (empty_queue room) (empty_queue room) (λ i. record { queue = trimmed-new bound i; room = room }) in
    λ i. record {
      slots = length-map list (trimmed_in_room bound) i;
      room = room;
      queues = λ o. (at o i).queue;
    }

pub are-trim : (bound room : ℕ) (list news : List QueueInRoom) → news ≡ map (trimmed_in_room bound) list
    → AreQueues (record { list = list; room = room }) → AreQueues (record { list = news; room = room })
are-trim bound room list news is are =
    record {
      slots = (let long = ap length is ∙ length-map list (trimmed_in_room bound) in let few = are.slots in omega (arith, long, few));
      rooms = λ o. ap (λ (l : List QueueInRoom). (get_or l o (empty_queue room)).room) is
          ∙ ap (λ (q : QueueInRoom). q.room) (map-at (trimmed_in_room bound) list o (empty_queue room) (empty_queue room) (λ i. record { queue = trimmed-new bound i; room = room }))
          ∙ are.rooms o;
    }

-- ---- counts

pub queues-counts : (list : List QueueInRoom) (room : ℕ) → map (λ q. have_of q.queue) list ≡ counts_of (length list) (queues_of (record { list = list; room = room })).queues
queues-counts list room = sym (map-read (λ (q : QueueInRoom). have_of q.queue) list (empty_queue room))

-- all that were counted so far are below this
abbrev pub AreCounted : List QueueInRoom → ℕ → Type 0
AreCounted list n = (k : ℕ) (d : QueueInRoom) → k < n → have_of (get_or list k d).queue < 2 ^ 32

pub counted-all : (list : List QueueInRoom) (o room : ℕ) → AreCounted list (length list) → have_of (get_or list o (empty_queue room)).queue < 2 ^ 32
counted-all [] o room h = omega arith
counted-all (q ∷ qs) zero room h = h 0 q (omega arith)
counted-all (q ∷ qs) (suc o) room h = counted-all qs o room (λ k d there. h (suc k) d (omega arith))
