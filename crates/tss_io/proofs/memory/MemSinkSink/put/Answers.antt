use Rattle.std.proofs.Common.{inl, inr, refl, arith}
use Rattle.tss_io.proofs.Streams.{same-le}
use Rattle.tss_io.proofs.memory.MemSinkSink.put.Goals as goal

pub returns-then-is_listed-clause-err : goal.returns-then-is_listed-clause-err
returns-then-is_listed-clause-err c =
    rw (← c.self.view_is, c.saturating_add-self-inside.ensures, c.saturating_add-self-inside-then-is_listed.ensures) refl

pub returns-clause-progress : goal.returns-clause-progress
returns-clause-progress c = omega (arith, c.self.invariant.1, c.min.ensures, c.min-count.ensures)

pub returns-clause-never_falls : goal.returns-clause-never_falls
returns-clause-never_falls c = rw (← c.self.view_is) (same-le c.self.inside.faults)

pub returns-clause-listed : goal.returns-clause-listed
returns-clause-listed c =
    let unlisted = rw (c.deref.ensures.value, c.if-is_listed.false) at c.is_listed-is_listed.ensures in
    rw (← c.self.view_is) (λ e. absurd cc, λ has. elim has [ inl listed ↦ unlisted.1 listed | inr full ↦ absurd (omega arith) ])
