use Rattle.std.proofs.Common.{◌-◌, length}
use Rattle.peer_packet.specs.Filling.{behind_cursor}
use Rattle.peer_packet.proofs.PutLaws.{Puts-of, Puts-none}
use Rattle.peer_sending.specs.Supply.{supply_of, due_at}
use Rattle.peer_sending.proofs.Loops.{none-put, none-weighs}
use Rattle.peer_sending.proofs.supply.Supply.put_slot.Goals as goal

pub returns-in-None-clause-bytes : goal.returns-in-None-clause-bytes
returns-in-None-clause-bytes c =
    Puts-of (none-put (length c.args.out.now - c.args.at) (behind_cursor c.args.cursor (due_at (supply_of c.args.self.now) c.args.origin)) c.in-None.ensures.parts)
    (Puts-none c.args.out.now c.args.at)

pub returns-in-None-clause-weight : goal.returns-in-None-clause-weight
returns-in-None-clause-weight c =
    none-weighs (length c.args.out.now - c.args.at) (behind_cursor c.args.cursor (due_at (supply_of c.args.self.now) c.args.origin)) c.in-None.ensures.parts
