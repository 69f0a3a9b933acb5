use Rattle.std.proofs.Common.{ap, subst, sym, ◌∙◌, ◌≤◌, ◌-◌, List, map, drop, arith}
use Rattle.peer_model.specs.Queue.{have_of, last_time}
use Rattle.peer_window.specs.Window.{counts_each}
use Rattle.peer_packet.specs.Packet.{AreSent}
use Rattle.peer_packet.specs.Packet as wire
use Rattle.peer_packet.specs.declared.part.PartHead.{PartHead}
use Rattle.peer_calls.specs.Wire.{sent_from}
use Rattle.peer_calls.specs.Hearing.{tells_each}
use Rattle.peer_queue.proofs.Conflicts.{sent-on}
use Rattle.peer_queue.proofs.Hears.{rolls-on, tells-front}
use Rattle.peer_queue.proofs.hear.hear_part.Goals as goal

pub hear_each-requires-clause-sent : goal.hear_each-requires-clause-sent
hear_each-requires-clause-sent g c =
    let p = c.args.part.now in
    let q = c.args.queue.now.queue in
    let number = c.have-have.ensures.number in
    let first = ap (λ (h : PartHead). h.first) c.head-head.ensures in
    let past = c.if-have-head.false in
    let on : p.first ≤ have_of q = omega arith in
    let left = c.behind-commands.ensures ∙ (λ i. drop (number i - first i) p.commands) in
    subst (λ (l : List wire.Sent). AreSent 64 (last_time q.gone q.commands) l) (sym left) (sent-on 64 p q on c.requires.agrees c.requires.sent)

pub returns-clause-heard : goal.returns-clause-heard
returns-clause-heard g c =
    let p = c.args.part.now in
    let q = c.args.queue.now.queue in
    let r = c.args.mirror.now in
    let room = c.args.queue.now.room in
    let number = c.have-have.ensures.number in
    let first = ap (λ (h : PartHead). h.first) c.head-head.ensures in
    let origin = ap (λ (h : PartHead). h.origin) c.head-head.ensures in
    let past = c.if-have-head.false in
    let on : p.first ≤ have_of q = omega arith in
    let left = c.behind-commands.ensures ∙ (λ i. drop (number i - first i) p.commands) in
    c.hear_each.ensures.heard ∙ (λ i. counts_each room (origin i) (map sent_from (left i)) q r) ∙ sym (rolls-on room p q r on)

pub returns-clause-told : goal.returns-clause-told
returns-clause-told g c =
    let p = c.args.part.now in
    let q = c.args.queue.now.queue in
    let r = c.args.mirror.now in
    let t = c.args.told.now in
    let room = c.args.queue.now.room in
    let number = c.have-have.ensures.number in
    let first = ap (λ (h : PartHead). h.first) c.head-head.ensures in
    let origin = ap (λ (h : PartHead). h.origin) c.head-head.ensures in
    let past = c.if-have-head.false in
    let on : p.first ≤ have_of q = omega arith in
    let left = c.behind-commands.ensures ∙ (λ i. drop (number i - first i) p.commands) in
    c.hear_each.ensures.told ∙ (λ i. tells_each room (origin i) (map sent_from (left i)) q r t) ∙ sym (tells-front room p q r t on)
