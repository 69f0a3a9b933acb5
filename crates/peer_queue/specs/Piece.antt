-- The piece of a queue's commands that is due.
use Rattle.std.specs.Prelude.{◌≡◌, ◌+◌, ◌^◌, ◌≤◌, ◌<◌, Option, Some, None, length, map}
use Rattle.peer_model.specs.Queue.{Queue, part_of}
use Rattle.peer_model.specs.Peer.{Span}
use Rattle.peer_packet.specs.declared.filling.Piece.{Piece}
use Rattle.peer_packet.specs.Filling as filling
use Rattle.peer_calls.specs.Wire.{as_sent, as_part}

-- the span that a piece is
abbrev pub span_of : Option Piece → Option Span
span_of None = None
span_of (Some x) = Some (record { origin = x.origin; first = x.first; count = x.count })

-- a piece stands in a queue, and its part is that of its span
pub record IsPieceOf (q : Queue) (x : Piece) : Type 0 where
  pub there : x.from + x.count ≤ length q.commands
  pub few : x.from + x.count < 2 ^ 16
  pub part : filling.part_of x (map as_sent q.commands) ≡ as_part (part_of x.origin x.first x.count q)
