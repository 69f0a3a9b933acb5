use Rattle.std.proofs.Common.{◌-◌, arith}
use Rattle.trailing_copy.proofs.Deferred.{deferred-kept}
use Rattle.trailing_copy.proofs.lazy.LazyStack.defer.Goals as goal

pub invariant_of-self : goal.invariant_of-self
invariant_of-self g c =
    let few = c.self.invariant.0.few_stale in
    let copies = c.copies.ensures in
    (deferred-kept (c.copies.result - 1) (omega arith) (omega arith) c.self.invariant.0, c.self.invariant.1)
