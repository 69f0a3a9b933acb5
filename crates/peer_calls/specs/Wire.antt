-- Commands, parts and packets of a session, as packets carry them.
use Rattle.std.specs.Prelude.{map, get_or}
use Rattle.peer_model.specs.Queue.{Sent, Part}
use Rattle.peer_model.specs.Peer.{Packet}
use Rattle.peer_packet.specs.Packet as wire

abbrev pub as_sent : Sent → wire.Sent
as_sent x = record { time = x.time; payload = x.bytes }

abbrev pub as_part : Part → wire.Part
as_part p = record {
  origin = p.origin;
  first = p.first;
  before = p.before;
  commands = map as_sent p.commands;
}

abbrev pub sent_from : wire.Sent → Sent
sent_from x = record { time = x.time; bytes = x.payload }

abbrev pub part_from : wire.Part → Part
part_from p = record {
  origin = p.origin;
  first = p.first;
  before = p.before;
  commands = map sent_from p.commands;
}

-- what a packet tells, but its mark
abbrev pub packet_from_wire : wire.Packet → Packet
packet_from_wire p = record {
  sender = p.from;
  to = p.to;
  clock = p.clock;
  echo = p.echo;
  have = λ o. get_or p.have o 0;
  parts = map part_from p.parts;
}
