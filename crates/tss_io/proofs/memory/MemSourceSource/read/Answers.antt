use Rattle.std.proofs.Common.{refl}
use Rattle.std.proofs.lemmas.List.{drop-drop}
use Rattle.tss_io.proofs.Streams.{same-le, given-front}
use Rattle.tss_io.proofs.memory.MemSourceSource.read.Goals as goal

pub returns-then-is_listed-clause-err : goal.returns-then-is_listed-clause-err
returns-then-is_listed-clause-err c =
    rw (← c.self.view_is, c.saturating_add-self-inside.ensures, c.saturating_add-self-inside-then-is_listed.ensures) refl

pub returns-then-is_listed-clause-listed : goal.returns-then-is_listed-clause-listed
returns-then-is_listed-clause-listed c =
    rw (← c.self.view_is) (rw (c.deref.ensures.value, c.if-is_listed.true) at c.is_listed-is_listed.ensures)

pub returns-clause-never_falls : goal.returns-clause-never_falls
returns-clause-never_falls c = rw (← c.self.view_is) (same-le c.self.inside.faults)

pub returns-clause-listed : goal.returns-clause-listed
returns-clause-listed c =
    rw (← c.self.view_is) (rw (c.deref.ensures.value, c.if-is_listed.false) at c.is_listed-is_listed.ensures)

pub returns-clause-ok : goal.returns-clause-ok
returns-clause-ok c = rw (← c.self.view_is, c.saturating_add-self-inside.ensures, drop-drop) refl

pub returns-clause-bytes : goal.returns-clause-bytes
returns-clause-bytes c =
    rw (← c.self.view_is) (given-front c.self.inside.bytes.items c.copy_front-count.new.out c.self.inside.at c.copy_front-count.result
    (rw (← c.deref-2.ensures.value, ← c.split_at.ensures.back) c.copy_front-count.ensures.copied))
