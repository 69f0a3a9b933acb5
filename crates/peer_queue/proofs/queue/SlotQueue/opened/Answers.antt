use Rattle.std.proofs.Common.{ap, sym, subst, ◌∙◌, ◌≡◌, ◌-◌, ◌++◌, ◌∷◌, [], ℕ, List, map, length, length-append, arith}
use Rattle.std.proofs.lemmas.List.{length-map, append_assoc}
use Rattle.peer_model.specs.Queue.{Sent, last_time}
use Rattle.peer_packet.specs.Packet.{AreSent}
use Rattle.peer_packet.specs.Packet as wire
use Rattle.peer_packet.specs.Seen.{sent_seen}
use Rattle.peer_packet.specs.declared.snapshot.QueueHead.{QueueHead}
use Rattle.peer_calls.specs.Wire.{sent_from}
use Rattle.peer_queue.specs.Room.{QueueInRoom, sent_of}
use Rattle.peer_queue.proofs.Rooms.{not-full}
use Rattle.peer_queue.proofs.Conflicts.{handed, sent-alone}
use Rattle.peer_queue.proofs.Hears.{sent-next}
use Rattle.peer_queue.proofs.queue.SlotQueue.opened.Goals as goal

pub overflow_sub-kept : goal.overflow_sub-kept
overflow_sub-kept c =
    let few = (handed c.args.have c.args.queue.now c.requires.handed).late in
    let same = c.from.ensures in
    let count = ap (λ (h : QueueHead). h.count) c.head-head.ensures in
    omega arith

pub beginning-requires-clause-late : goal.beginning-requires-clause-late
beginning-requires-clause-late c =
    let few = (handed c.args.have c.args.queue.now c.requires.handed).late in
    let same = c.from.ensures in
    let count = ap (λ (h : QueueHead). h.count) c.head-head.ensures in
    let late = ap (λ (h : QueueHead). h.late) c.head-head.ensures in
    omega arith

pub beginning-requires-clause-nothing_gone : goal.beginning-requires-clause-nothing_gone
beginning-requires-clause-nothing_gone c = λ none.
    let h = handed c.args.have c.args.queue.now c.requires.handed in
    let few = h.late in
    let same = c.from.ensures in
    let count = ap (λ (h : QueueHead). h.count) c.head-head.ensures in
    let all : length c.args.queue.now.commands ≡ c.args.have = omega arith in
    ap (λ (h : QueueHead). h.before) c.head-head.ensures ∙ h.none_gone all

pub loop-x-init : goal.loop-x-init
loop-x-init c =
    let q = c.args.queue.now in
    let h = handed c.args.have q c.requires.handed in
    let o = c.in_ok-opened.ensures in
    let count = c.from.ensures ∙ ap (λ (h : QueueHead). h.count) c.head-head.ensures in
    let sent = sent-alone c.head-head.result.before q.commands (subst (λ (x : QueueHead). AreSent 64 x.before q.commands) (sym c.head-head.ensures) h.sent) in
    let opened = subst (λ (s : QueueInRoom). AreSent 64 (last_time s.queue.gone s.queue.commands) q.commands) (sym o) sent in (
      ap (λ (s : QueueInRoom). s.room) o,
      ap (λ (s : QueueInRoom). s.queue.kept) o ∙ ap (λ (n : ℕ). c.args.have - n) count,
      ap (λ (s : QueueInRoom). s.queue.gone) o ∙ ap (λ (h : QueueHead). h.before) c.head-head.ensures,
      ap (λ (s : QueueInRoom). s.queue.late) o ∙ ap (λ (h : QueueHead). h.late) c.head-head.ensures,
      (λ i. (o i).queue.commands ++ map sent_from (c.commands-commands.ensures i)),
      subst (λ (l : List wire.Sent). AreSent 64 (last_time c.in_ok-opened.opened.queue.gone c.in_ok-opened.opened.queue.commands) l) (sym c.commands-commands.ensures) opened,
    )

pub own-requires-clause-room : goal.own-requires-clause-room
own-requires-clause-room c =
    let h = c.loop-x.invariant in
    let q = c.args.queue.now in
    let o = c.loop-x.opened in
    let left = ap length c.in-Some.ensures in
    let all = ap length h.4 in
    let a = length-append o.queue.commands (map sent_from c.loop-x.commands) in
    let b = length-map c.loop-x.commands sent_from in
    let d = length-map q.commands sent_from in
    let room = h.0 in
    let few = c.requires.room in
    not-full (length o.queue.commands) o.room (omega arith)

pub loop-x-preserved : goal.loop-x-preserved
loop-x-preserved c =
    let h = c.loop-x.invariant in
    let o = c.loop-x.opened in
    let own = c.own.ensures in
    let x = sent_of c.new.result in
    let y = sent_from (sent_seen c.in-Some.x) in
    let e = c.new.ensures.sent in
    let next = c.next.new.self in
    let left = c.in-Some.ensures in
    let sent : AreSent 64 (last_time o.queue.gone o.queue.commands) (sent_seen c.in-Some.x ∷ next) = subst (λ (l : List wire.Sent). AreSent 64 (last_time o.queue.gone o.queue.commands) l) left h.5 in
    let behind : AreSent 64 x.time next = subst (λ (s : Sent). AreSent 64 s.time next) (sym e) sent.1 in (
      ap (λ (s : QueueInRoom). s.room) own ∙ h.0,
      ap (λ (s : QueueInRoom). s.queue.kept) own ∙ h.1,
      ap (λ (s : QueueInRoom). s.queue.gone) own ∙ h.2,
      ap (λ (s : QueueInRoom). s.queue.late) own ∙ h.3,
      (λ i. (own i).queue.commands ++ map sent_from next) ∙ (λ i. (o.queue.commands ++ e i ∷ []) ++ map sent_from next)
          ∙ append_assoc o.queue.commands (y ∷ []) (map sent_from next) ∙ sym (ap (λ (l : List wire.Sent). o.queue.commands ++ map sent_from l) left) ∙ h.4,
      subst (λ (s : QueueInRoom). AreSent 64 (last_time s.queue.gone s.queue.commands) next) (sym own) (sent-next o.queue.gone 0 o.queue x next behind),
    )
