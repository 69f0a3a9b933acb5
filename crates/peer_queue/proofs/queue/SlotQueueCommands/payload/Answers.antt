use Rattle.std.proofs.Common.{ap, sym, ◌∙◌, ◌<◌, map, length, arith}
use Rattle.std.proofs.lemmas.List.{length-map}
use Rattle.peer_packet.specs.Packet as wire
use Rattle.peer_calls.specs.Wire.{as_sent}
use Rattle.peer_queue.specs.declared.sent.SentBytes.{SentBytes}
use Rattle.peer_queue.specs.Room.{sent_of}
use Rattle.peer_queue.proofs.Rooms.{wire-at}
use Rattle.peer_queue.proofs.queue.SlotQueueCommands.payload.Goals as goal

pub returns-clause-bytes : goal.returns-clause-bytes
returns-clause-bytes c =
    let q = c.self.inside.commands in
    let there = rw (← c.self.view_is) at c.requires in
    let a = length-map q.items sent_of in
    let b = length-map (map sent_of q.items) as_sent in
    let within : c.args.place < length q.items = omega arith in
    λ d. c.payload.ensures.bytes ∙ ap (λ (x : SentBytes). (sent_of x).bytes) c.index.ensures ∙ rw (← c.self.view_is) (ap (λ (x : wire.Sent). x.payload) (sym (wire-at q.items c.args.place c.index.result.now d within)))
