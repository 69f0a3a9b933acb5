-- The numbers of the fields of packets and snapshots, in the order of the bytes.
use Rattle.std.specs.Prelude.{ℕ}
use Rattle.peer_packet.specs.declared.fault.Fault.{Fault}
use Rattle.peer_packet.specs.declared.fault.Fault.TheVariants.{Kind, Session, OtherSession, Ends, Head, Vector, Mark, Part, Command, Rest}

abbrev pub field_of : Fault → ℕ
field_of OtherSession = 0
field_of Kind = 1
field_of Session = 2
field_of Ends = 3
field_of Head = 4
field_of Vector = 5
field_of Mark = 6
field_of Part = 7
field_of Command = 8
field_of Rest = 9
