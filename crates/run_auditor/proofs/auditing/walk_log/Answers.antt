use Rattle.std.proofs.Common.{refl, sym, ◌∙◌}
use Rattle.run_auditor.proofs.AuditLaws.{note_moves}
use Rattle.run_auditor.proofs.auditing.walk_log.Goals as goal

pub loop-place-preserved : goal.loop-place-preserved
loop-place-preserved g c =
    let next = note_moves c.args.walk.now c.loop-place.walk c.loop-place.walk.left c.in-Note.field-0 refl (sym c.next.ensures.told ∙ c.in-Note.is) c.loop-place.invariant in
    rw c.next.ensures.state next.0
