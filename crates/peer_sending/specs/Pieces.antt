-- Pieces of a slot's commands, as parts of a packet.
use Rattle.std.specs.Prelude.{◌+◌, ◌^◌, ◌≤◌, ◌<◌, Option, Some, None, List, [], ◌∷◌, length}
use Rattle.peer_packet.specs.declared.filling.Piece.{Piece}
use Rattle.peer_packet.specs.Packet.{Sent, Part}
use Rattle.peer_packet.specs.Filling.{part_of}

-- a piece is of these commands, of numbers that a session has, and no more than a part can count
pub record Fits (x : Piece) (cs : List Sent) : Type 0 where
  pub there : x.from + x.count ≤ length cs
  pub few : x.count < 2 ^ 16
  pub numbers : x.first + x.count < 2 ^ 32
  pub places : x.from + x.count < 2 ^ 32

-- the part that a piece is, where there is one
abbrev pub parts_of : Option Piece → List Sent → List Part
parts_of None cs = []
parts_of (Some x) cs = part_of x cs ∷ []
