use Rattle.std.proofs.Common.{◌≡◌, ◌+◌, ◌-◌, length}
use Rattle.tss_io.specs.declared.limits.TheConstants.{LONGEST_LINE}
use Rattle.line_talk.specs.Talk.{shown, HeardFront, IsTorn}
use Rattle.line_talk.proofs.front.hear_front.Given as goal

abbrev pub invariant-loop-peer : goal.invariant-loop-peer
invariant-loop-peer g l = record {
  torn : IsTorn l.bytes.items;
  heard : HeardFront (shown g.P.Peer.left g.P.Peer.said l.fn.peer) (shown g.P.Peer.left g.P.Peer.said l.peer) l.bytes.items;
  steady : g.P.Peer.faults l.peer ≡ g.P.Peer.faults l.fn.peer;
}

abbrev pub decreases-loop-peer : goal.decreases-loop-peer
decreases-loop-peer g l = LONGEST_LINE + 1 - length l.bytes.items
