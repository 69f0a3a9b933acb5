use Rattle.std.proofs.Common.{ap}
use Rattle.mirror_lock.proofs.Ends.{ends_from}
use Rattle.mirror_lock.proofs.lock.MirrorLock+G.close.Goals as goal

pub returns : goal.returns
returns g c =
    ends_from g.G.Game.rules c.args.self.lock.table.shared.key.opening.value c.into_lock.result.table.shared.key.opening.value _ c.into_mirror.result c.close.result c.close.ensures
    (ap (λ lock. lock.table.shared.key.opening.value) c.into_lock.ensures) c.into_mirror.ensures.same c.into_mirror.ensures.consistent
