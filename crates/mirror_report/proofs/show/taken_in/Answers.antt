use Rattle.std.proofs.Common.{List, length, ap, arith}
use Rattle.game_trait.specs.declared.command.Command.{Command}
use Rattle.game_trait.specs.declared.event.Event.{Event}
use Rattle.sync_model.specs.declared.turned.Turned.{Turned}
use Rattle.mirror_report.proofs.Taken.{consistent-few}
use Rattle.mirror_report.proofs.show.taken_in.Goals as goal

pub overflow_cast-result : goal.overflow_cast-result
overflow_cast-result g c =
    let few = consistent-few (g.M.Mirrored.state c.args.mirror.now) c.always.ensures in
    let same = ap (λ (l : List Command). length l) c.accepted.ensures in
    let events = ap (λ (l : List Event). length l) c.events.ensures.events in
    omega (arith, few.0, same, events, c.events.ensures.few)

pub overflow_cast-result-2 : goal.overflow_cast-result-2
overflow_cast-result-2 g c =
    let few = consistent-few (g.M.Mirrored.state c.args.mirror.now) c.always.ensures in
    let same = ap (λ (l : List Turned). length l) c.turned.ensures in
    let events = ap (λ (l : List Event). length l) c.events.ensures.events in
    omega (arith, few.1, same, events, c.events.ensures.few)
