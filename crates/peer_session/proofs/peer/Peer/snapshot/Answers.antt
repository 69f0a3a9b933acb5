use Rattle.std.proofs.Common.{◌≡◌, take}
use Rattle.peer_calls.specs.Handing.{snapshot_text}
use Rattle.peer_sending.specs.Sending.{state_of}
use Rattle.peer_slots.specs.Links.{links_of}
use Rattle.peer_slots.specs.Queues.{queues_of}
use Rattle.peer_session.proofs.Made.{handed-by}
use Rattle.peer_session.proofs.peer.Peer.snapshot.Goals as goal

pub returns-clause-answer : goal.returns-clause-answer
returns-clause-answer g c = rw (← c.self.view_is) (c.put_snapshot.ensures.answer c.self.inside.start (links_of c.self.inside.links))

pub returns-clause-bytes : goal.returns-clause-bytes
returns-clause-bytes g c =
    let i = c.self.inside in
    rw (← c.self.view_is) (handed-by c.put_snapshot.result
    (λ start links size. take size c.put_snapshot.new.out ≡ snapshot_text i.config (state_of i.me start (queues_of i.queues) links i.mirror))
    i.start (links_of i.links) c.put_snapshot.ensures.bytes)
