use Rattle.std.proofs.Common.{◌≡◌, subst}
use Rattle.peer_sending.specs.Pieces.{parts_of}
use Rattle.peer_sending.specs.Supply.{supply_of, sent_at, due_at}
use Rattle.peer_sending.proofs.Loops.{none-behind}
use Rattle.peer_sending.proofs.supply.Supply.behind.Goals as goal

pub returns-in-None-clause-parts : goal.returns-in-None-clause-parts
returns-in-None-clause-parts c =
    let s = supply_of c.args.self.now in
    none-behind c.args.cursor (due_at s c.args.origin) (subst (λ (r : _). parts_of r (sent_at s c.args.origin) ≡ due_at s c.args.origin) c.in-None.is c.requires.due)
