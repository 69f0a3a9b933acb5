use Rattle.race_hall.specs.Race.{count_from}
use Rattle.race_hall.proofs.Undelivered.{places-held}
use Rattle.race_hall.proofs.AfterJoins.{looked, looked-can, looked-ends}
use Rattle.race_hall.proofs.finish.finish_one.Goals as goal

pub finish_mirror-requires-clause-places : goal.finish_mirror-requires-clause-places
finish_mirror-requires-clause-places g c =
    let h = c.requires.held.0 in
    places-held h.course (λ k. (h.end k).marked) (count_from 0 h.course.mirrors) c.args.senders.now c.requires.held.1.race.each

pub finish_mirror-requires-clause-can : goal.finish_mirror-requires-clause-can
finish_mirror-requires-clause-can g c =
    let h = c.requires.held.0 in
    let one = c.requires.held.1 in
    looked-can h c.args.number c.args.mirror.now c.args.sends.now c.args.row.now c.look_row.new.row c.args.senders.now one
    (looked h c.args.number c.args.mirror.now c.args.sends.now c.args.row.now c.look_row.new.row c.args.senders.now one c.look_row.ensures.row c.look_row.ensures.whole)

pub returns-clause-ends : goal.returns-clause-ends
returns-clause-ends g c = λ h one.
    looked-ends g.G.Game.rules h c.args.number c.args.mirror.now c.finish_mirror.new.mirror c.args.sends.now c.args.row.now c.look_row.new.row c.args.senders.now one
    (looked h c.args.number c.args.mirror.now c.args.sends.now c.args.row.now c.look_row.new.row c.args.senders.now one c.look_row.ensures.row c.look_row.ensures.whole)
    c.finish_mirror.ensures
