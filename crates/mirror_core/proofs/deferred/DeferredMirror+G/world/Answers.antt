use Rattle.std.proofs.Common.{sym, ap, subst, arith}
use Rattle.sync_model.specs.State.{MirrorState}
use Rattle.sync_model.specs.Turns.{IsDrained}
use Rattle.sync_model.proofs.Drain.{drained_is_tested}
use Rattle.mirror_core.proofs.deferred.DeferredMirror+G.world.Goals as goal

pub world-requires-clause-fresh : goal.world-requires-clause-fresh
world-requires-clause-fresh g c =
    let ended = subst (λ (s : MirrorState _). IsDrained s) (sym c.self.view_is) c.requires.drained in
    let made = c.self.invariant.drained ((drained_is_tested c.self.inside.core.state).1 ended) in
    let same = ap (λ l. l.core.stale) c.self-inside.view_is in
    omega (arith, made, same)
