use Rattle.std.proofs.Common.{sym, subst}
use Rattle.mirror_core.specs.Drained.{AreInOrder}
use Rattle.mirror_core.proofs.Drained.{in-order}
use Rattle.mirror_core.proofs.deferred.DeferredMirror+G.drain.Goals as goal

pub returns-clause-worlds : goal.returns-clause-worlds
returns-clause-worlds g c =
    subst (λ s. AreInOrder g.G.Game.rules s) (sym c.run_to_the_end.ensures) (in-order g.G.Game.rules _ c.always.ensures)
