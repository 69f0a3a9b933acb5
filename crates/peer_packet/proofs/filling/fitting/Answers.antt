use Rattle.std.proofs.Common.{ap, length, ◌+◌}
use Rattle.peer_packet.proofs.FillLaws.{fit_on, fit_stop, fit_done, no_sent}
use Rattle.peer_packet.proofs.filling.fitting.Goals as goal

pub returns-then-left-size : goal.returns-then-left-size
returns-then-left-size g c =
    fit_stop (g.C.Commands.commands c.args.commands.now) c.args.from c.args.count c.loop-place.place c.loop-place.left _ no_sent (5 + length c.payload.result.now) c.loop-place-test.true c.requires.there
    (ap (λ (l : _). 5 + length l) (c.payload.ensures.bytes no_sent)) c.if-left-size.true c.loop-place.invariant

pub loop-place-preserved : goal.loop-place-preserved
loop-place-preserved g c =
    fit_on (g.C.Commands.commands c.args.commands.now) c.args.from c.args.count c.loop-place.place c.loop-place.left _ no_sent (5 + length c.payload.result.now) c.loop-place-test.true c.requires.there
    (ap (λ (l : _). 5 + length l) (c.payload.ensures.bytes no_sent)) c.if-left-size.false c.loop-place.invariant

pub returns : goal.returns
returns g c = fit_done (g.C.Commands.commands c.args.commands.now) c.args.from c.args.count c.loop-place.place c.loop-place.left _ c.loop-place-test.false c.loop-place.auto.place-end c.loop-place.invariant
