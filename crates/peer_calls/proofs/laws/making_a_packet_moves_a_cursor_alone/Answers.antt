use Rattle.peer_calls.proofs.Refused.{cursor-alone}
use Rattle.peer_calls.proofs.laws.making_a_packet_moves_a_cursor_alone.Goals as goal

pub returns : goal.returns
returns g c = λ config to room s. cursor-alone config to room s
