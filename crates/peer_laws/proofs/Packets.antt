-- What a packet for another peer has of what is due.
use Rattle.std.proofs.Common.{◌≡◌, ap, sym, subst, ℕ, ◌-◌, Bool, true, false, cond, ◌&&◌, refl}
use Rattle.std.proofs.lemmas.Bool.{and_from, eq-eqb}
use Rattle.peer_model.specs.Peer.{put}
use Rattle.peer_packet.specs.declared.cursor.Cursor.{Cursor}
use Rattle.peer_packet.specs.Filling.{from_cursor}
use Rattle.peer_calls.specs.declared.config.Config.{Config}
use Rattle.peer_calls.specs.State.{State, clock_now}
use Rattle.peer_calls.specs.Sending.{packet_for, after_packet, said_to_packet, due_parts, head_length, filled_for, is_other, has_room}
use Rattle.peer_laws.specs.Filled.{HasWhatFits, waits_behind, IsTold}
use Rattle.peer_laws.proofs.Filled.{filled-has}
use Rattle.peer_laws.specs.Waiting.{not_before, IsRest}
use Rattle.peer_laws.proofs.More.{more-told}
use Rattle.peer_laws.proofs.Waiting.{rest-waits}
use Rattle.peer_laws.proofs.Rising.{due-rises}

cursor-if : {W : Type 0} (b : Bool) (to : ℕ) (x : Cursor) (s : State W) → b ≡ true → (cond b (record s { cursor = put to x s.cursor }) s).cursor to ≡ x
cursor-if true to x s e = ap (λ (v : Bool). cond v x (s.cursor to)) (eq-eqb to to refl)
cursor-if false to x s e = absurd (cc)

pub packet-has : {W : Type 0} (c : Config) (to room : ℕ) (s : State W) → is_other c to s ≡ true → has_room c to room s ≡ true
    → HasWhatFits (room - head_length c to s) (waits_behind (s.cursor to) (due_parts c to s)) (record { parts = (packet_for c to room s).parts; cursor = (after_packet c to room s).cursor to })
packet-has c to room s is has =
    let f = filled_for c to room s in
    let same : (after_packet c to room s).cursor to ≡ f.cursor = cursor-if (is_other c to s && has_room c to room s) to f.cursor s (and_from (is_other c to s) (has_room c to room s) is has) in
    subst (λ (d : Cursor). HasWhatFits (room - head_length c to s) (waits_behind (s.cursor to) (due_parts c to s)) (record { parts = f.parts; cursor = d })) (sym same)
    (filled-has (room - head_length c to s) (from_cursor (s.cursor to) (due_parts c to s)))

pub packet-told : {W : Type 0} (c : Config) (to room : ℕ) (s : State W) → is_other c to s ≡ true → has_room c to room s ≡ true
    → IsTold (said_to_packet c to room s) (due_parts c to s) (packet_for c to room s).parts
packet-told c to room s is has =
    rw (is, has) (more-told (s.cursor to) (room - head_length c to s) (due_parts c to s))

pub packet-waits : {W : Type 0} (c : Config) (to : ℕ) (s : State W)
    → IsRest (not_before (s.cursor to) (due_parts c to s)) (due_parts c to s) (waits_behind (s.cursor to) (due_parts c to s))
packet-waits c to s =
    rest-waits (s.cursor to) (due_parts c to s) (due-rises s.me c.relay to s.queues (s.known to) (clock_now s) c.terms.slots)
