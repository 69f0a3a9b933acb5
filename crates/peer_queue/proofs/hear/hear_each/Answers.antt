use Rattle.std.proofs.Common.{ap, sym, subst, ◌∙◌, ◌≡◌, List, [], ◌∷◌, map, length, length-append, arith}
use Rattle.rolling_mirror.specs.Rolling.{last_tick, said_to_arrival, arrived}
use Rattle.peer_model.specs.Queue.{Sent, have_of, last_time, joined}
use Rattle.peer_window.specs.Window.{next_command, counts, counts_each}
use Rattle.peer_packet.specs.Packet.{AreSent}
use Rattle.peer_packet.specs.Packet as wire
use Rattle.peer_packet.specs.Seen.{sent_seen}
use Rattle.peer_calls.specs.Wire.{sent_from}
use Rattle.peer_calls.specs.Hearing.{tells_each}
use Rattle.peer_calls.specs.declared.told.Told.{Told}
use Rattle.peer_queue.specs.Room.{QueueInRoom, sent_of, heard_of}
use Rattle.peer_queue.proofs.Hears.{counts-on, counts-stops, counts-none, tells-on, tells-stops, tells-none, told_of_one, one-more, sent-next}
use Rattle.peer_queue.proofs.hear.hear_each.Goals as goal

pub returns-then-not-hear_next-clause-heard : goal.returns-then-not-hear_next-clause-heard
returns-then-not-hear_next-clause-heard g c =
    let h = c.loop-x.invariant in
    let room = c.args.queue.now.room in
    let o = c.args.origin in
    let q = c.loop-x.queue.queue in
    let r = c.loop-x.mirror in
    let next = c.next.new.self in
    let one = c.if-not-hear_next.ensures in
    let y = sent_from (sent_seen c.in-Some.x) in
    let e = c.new-next.ensures.sent in
    let is : counts room o y q r ≡ _ = (λ i. counts (sym h.2 i) o (sym e i) q r) ∙ sym one.counted in
    let list = ap (λ (l : List wire.Sent). counts_each room o (map sent_from l) q r) c.in-Some.ensures in
    (λ i. heard_of (one.queue i) (one.mirror i)) ∙ sym (counts-stops room o y (map sent_from next) q r is) ∙ sym list ∙ h.0

pub returns-then-not-hear_next-clause-told : goal.returns-then-not-hear_next-clause-told
returns-then-not-hear_next-clause-told g c =
    let h = c.loop-x.invariant in
    let room = c.args.queue.now.room in
    let o = c.args.origin in
    let q = c.loop-x.queue.queue in
    let r = c.loop-x.mirror in
    let t = c.loop-x.told in
    let next = c.next.new.self in
    let one = c.if-not-hear_next.ensures in
    let y = sent_from (sent_seen c.in-Some.x) in
    let e = c.new-next.ensures.sent in
    let is : counts room o y q r ≡ _ = (λ i. counts (sym h.2 i) o (sym e i) q r) ∙ sym one.counted in
    let list = ap (λ (l : List wire.Sent). tells_each room o (map sent_from l) q r t) c.in-Some.ensures in
    one.told ∙ (λ i. told_of_one (h.2 i) o (e i) q r t) ∙ sym (tells-stops room o y (map sent_from next) q r t is) ∙ sym list ∙ h.1

pub loop-x-preserved : goal.loop-x-preserved
loop-x-preserved g c =
    let h = c.loop-x.invariant in
    let room = c.args.queue.now.room in
    let o = c.args.origin in
    let q = c.loop-x.queue.queue in
    let r = c.loop-x.mirror in
    let t = c.loop-x.told in
    let next = c.next.new.self in
    let one = c.if-not-hear_next.ensures in
    let x = sent_of c.new-next.result in
    let y = sent_from (sent_seen c.in-Some.x) in
    let e = c.new-next.ensures.sent in
    let is : counts room o y q r ≡ _ = (λ i. counts (sym h.2 i) o (sym e i) q r) ∙ sym one.counted in
    let left = c.in-Some.ensures in
    let list = ap (λ (l : List wire.Sent). counts_each room o (map sent_from l) q r) left in
    let list-told = ap (λ (l : List wire.Sent). tells_each room o (map sent_from l) q r t) left in
    let long = ap length left in
    let have = ap (λ (s : QueueInRoom). have_of s.queue) one.queue in
    let more = length-append q.commands (x ∷ []) in
    let sent : AreSent 64 (last_time q.gone q.commands) (sent_seen c.in-Some.x ∷ next) = subst (λ (l : List wire.Sent). AreSent 64 (last_time q.gone q.commands) l) left h.4 in
    let behind : AreSent 64 x.time next = subst (λ (s : Sent). AreSent 64 s.time next) (sym e) sent.1 in
    let grows = one-more c.loop-x.queue.room o x q r t in
    let taken = ap (λ (s : Told). s.taken) one.told in
    let late = ap (λ (s : Told). s.late) one.told in
    let a = grows.0 in
    let b = grows.1 in
    let number = h.3 in
    let few = h.5 in
    let lately = h.6 in (
      (λ i. counts_each room o (map sent_from next) (one.queue i).queue (one.mirror i))
          ∙ (λ i. counts_each room o (map sent_from next) (joined (last_tick r) (e i ∷ []) q) (arrived r (next_command o (e i) q) (said_to_arrival r (next_command o (e i) q))))
          ∙ sym (counts-on room o y (map sent_from next) q r is) ∙ sym list ∙ h.0,
      (λ i. tells_each room o (map sent_from next) (one.queue i).queue (one.mirror i) (one.told i))
          ∙ (λ i. tells_each room o (map sent_from next) (joined (last_tick r) (e i ∷ []) q) (arrived r (next_command o (e i) q) (said_to_arrival r (next_command o (e i) q))) (told_of_one (h.2 i) o (e i) q r t))
          ∙ sym (tells-on room o y (map sent_from next) q r t is) ∙ sym list-told ∙ h.1,
      ap (λ (s : QueueInRoom). s.room) one.queue ∙ h.2,
      omega arith,
      subst (λ (s : QueueInRoom). AreSent 64 (last_time s.queue.gone s.queue.commands) next) (sym one.queue) (sent-next q.gone (last_tick r) q x next behind),
      omega arith,
      omega arith,
    )

pub returns-clause-heard : goal.returns-clause-heard
returns-clause-heard g c =
    counts-none c.args.queue.now.room c.args.origin c.loop-x.left c.loop-x.queue.queue c.loop-x.mirror (rw c.in_default.is at c.next.ensures).0 ∙ c.loop-x.invariant.0

pub returns-clause-told : goal.returns-clause-told
returns-clause-told g c =
    tells-none c.args.queue.now.room c.args.origin c.loop-x.left c.loop-x.queue.queue c.loop-x.mirror c.loop-x.told (rw c.in_default.is at c.next.ensures).0 ∙ c.loop-x.invariant.1
