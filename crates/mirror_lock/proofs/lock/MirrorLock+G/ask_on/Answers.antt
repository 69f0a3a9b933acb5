use Rattle.std.proofs.Common.{ap, ◌∙◌}
use Rattle.turn_lock.proofs.Serving.{reply_is_said}
use Rattle.mirror_lock.specs.Locked.{mirror_rules, said_locked}
use Rattle.mirror_lock.proofs.lock.MirrorLock+G.ask_on.Goals as goal

pub unreachable-requires : goal.unreachable-requires
unreachable-requires g c =
    let told = reply_is_said (mirror_rules g.G.Game.rules) _ _ _ _ c.args.seat.now.opened c.call.ensures.called in
    c.in_default.not-Event _ (told.1 ∙ ap (λ q. said_locked g.G.Game.rules told.0 q) c.put_event.ensures)
