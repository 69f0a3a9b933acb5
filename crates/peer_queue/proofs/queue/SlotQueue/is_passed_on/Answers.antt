use Rattle.std.proofs.Common.{ap, ◌∙◌, ◌+◌, ℕ}
use Rattle.std.specs.Prelude.{nat_le}
use Rattle.peer_packet.specs.Packet as wire
use Rattle.peer_calls.specs.Wire.{as_sent}
use Rattle.peer_queue.proofs.Rooms.{sent-at}
use Rattle.peer_queue.proofs.queue.SlotQueue.is_passed_on.Goals as goal

pub returns : goal.returns
returns c = λ d.
    let at = c.time.ensures (as_sent d) ∙ ap (λ (x : wire.Sent). x.time) (sent-at c.args.self.now.queue.commands c.args.place d c.requires) in
    (λ i. nat_le (c.from.ensures i + c.from-2.ensures i) (c.from-3.ensures i)) ∙ ap (λ (t : ℕ). nat_le (t + c.args.relay) c.args.clock) at
