use Rattle.std.proofs.Common.{ap, ◌∙◌, ℕ, get_or}
use Rattle.peer_packet.specs.Packet as wire
use Rattle.peer_calls.specs.Wire.{as_sent}
use Rattle.peer_queue.proofs.Rooms.{sent-at}
use Rattle.peer_queue.proofs.queue.SlotQueue.time_of.Goals as goal

pub returns-in-Some-clause-time : goal.returns-in-Some-clause-time
returns-in-Some-clause-time c = λ d.
    let cs = c.args.self.now.queue.commands in
    let place = c.in-Some.ensures.place in
    c.time.ensures (as_sent d) ∙ ap (λ (x : wire.Sent). x.time) (sent-at cs c.in-Some.place d place.0) ∙ ap (λ (k : ℕ). (get_or cs k d).time) place.1
