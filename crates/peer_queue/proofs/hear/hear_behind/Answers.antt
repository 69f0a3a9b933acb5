use Rattle.std.proofs.Common.{subst, sym, List}
use Rattle.peer_model.specs.Queue.{last_time}
use Rattle.peer_packet.specs.Packet.{AreSent}
use Rattle.peer_packet.specs.Packet as wire
use Rattle.peer_packet.specs.declared.part.PartHead.{PartHead}
use Rattle.peer_queue.specs.Room.{QueueInRoom}
use Rattle.peer_queue.proofs.Conflicts.{sent-alone}
use Rattle.peer_queue.proofs.hear.hear_behind.Goals as goal

pub hear_each-requires-clause-sent : goal.hear_each-requires-clause-sent
hear_each-requires-clause-sent g c =
    let p = c.args.part.now in
    let sent = sent-alone c.head-head.result.before p.commands (subst (λ (h : PartHead). AreSent 64 h.before p.commands) (sym c.head-head.ensures) c.requires.sent) in
    let skipped = subst (λ (s : QueueInRoom). AreSent 64 (last_time s.queue.gone s.queue.commands) p.commands) (sym c.skip.ensures) sent in
    subst (λ (l : List wire.Sent). AreSent 64 (last_time c.skip.new.self.queue.gone c.skip.new.self.queue.commands) l) (sym c.commands.ensures) skipped
