use Rattle.std.proofs.Common.{sym, subst}
use Rattle.sync_model.specs.State.{MirrorState}
use Rattle.race_hall.specs.Finish.{CanTake}
use Rattle.race_hall.specs.Undelivered.{left_in, unissued_in}
use Rattle.race_hall.proofs.Deliveries.{can-later}
use Rattle.race_hall.proofs.Pieces.{finish-state}
use Rattle.race_hall.proofs.finish.finish_mirror.Goals as goal

pub take_unissued-requires-clause-can : goal.take_unissued-requires-clause-can
take_unissued-requires-clause-can g c =
    subst (λ (u : MirrorState _). CanTake u (unissued_in c.args.senders.now)) (sym c.take_links.ensures)
    (can-later c.args.mirror.now (left_in c.args.links.now) (unissued_in c.args.senders.now) c.requires.can)

pub returns : goal.returns
returns g c =
    finish-state c.args.mirror.now c.take_links.new.mirror c.take_unissued.new.mirror c.drain.new.self (left_in c.args.links.now) (unissued_in c.args.senders.now)
    c.take_links.ensures c.take_unissued.ensures c.drain.ensures.state
