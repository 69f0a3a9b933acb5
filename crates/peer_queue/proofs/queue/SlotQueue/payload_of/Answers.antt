use Rattle.std.proofs.Common.{ap, ◌∙◌, ℕ, get_or}
use Rattle.peer_packet.specs.Packet as wire
use Rattle.peer_calls.specs.Wire.{as_sent}
use Rattle.peer_queue.proofs.Rooms.{sent-at}
use Rattle.peer_queue.proofs.queue.SlotQueue.payload_of.Goals as goal

pub returns-in-Some-clause-bytes : goal.returns-in-Some-clause-bytes
returns-in-Some-clause-bytes c = λ d.
    let cs = c.args.self.now.queue.commands in
    let place = c.in-Some.ensures.place in
    c.payload.ensures.bytes (as_sent d) ∙ ap (λ (x : wire.Sent). x.payload) (sent-at cs c.in-Some.place d place.0) ∙ ap (λ (k : ℕ). (get_or cs k d).bytes) place.1
