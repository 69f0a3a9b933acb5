use Rattle.peer_packet.specs.Seen.{sent_seen}
use Rattle.peer_queue.proofs.Walks.{pass-some, pass-none}
use Rattle.peer_queue.proofs.walk.pass.Goals as goal

pub returns-in-Some-clause-time : goal.returns-in-Some-clause-time
returns-in-Some-clause-time c = pass-some c.args.last (sent_seen c.in-Some.sent) c.args.commands.now c.next.new.self c.in-Some.ensures

pub returns-in-None-clause-time : goal.returns-in-None-clause-time
returns-in-None-clause-time c = pass-none c.args.last c.args.commands.now c.in-None.ensures.0
