use Rattle.std.proofs.Common.{◌≡◌, ◌+◌, ◌-◌, take, drop}
use Rattle.peer_packet.specs.Filling.{fitting}
use Rattle.peer_packet.proofs.filling.fitting.Given as goal

abbrev pub invariant-loop-place : goal.invariant-loop-place
invariant-loop-place g l =
    l.place + fitting l.left (take (l.count - l.place) (drop (l.from + l.place) (g.C.Commands.commands l.commands)))
    ≡ fitting l.fn.room (take l.count (drop l.from (g.C.Commands.commands l.commands)))
