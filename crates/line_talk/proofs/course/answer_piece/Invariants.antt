use Rattle.std.proofs.Common.{◌≡◌, ◌<◌, length}
use Rattle.line_talk.specs.Talk.{AnsweredBy}
use Rattle.line_talk.specs.declared.course.TheConstants.{MOST_HELD}
use Rattle.line_talk.proofs.course.answer_piece.Given as goal

abbrev pub invariant-loop-rest : goal.invariant-loop-rest
invariant-loop-rest g l = record {
  went : AnsweredBy g.A.Answerer.way l.fn.ear l.ear l.piece l.rest l.fn.out.items l.out.items (g.P.Peer.said l.fn.peer) (g.P.Peer.said l.peer);
  held : length l.out.items < MOST_HELD;
  left : g.P.Peer.left l.peer ≡ g.P.Peer.left l.fn.peer;
  steady : g.P.Peer.faults l.peer ≡ g.P.Peer.faults l.fn.peer;
}

abbrev pub decreases-loop-rest : goal.decreases-loop-rest
decreases-loop-rest g l = length l.rest
