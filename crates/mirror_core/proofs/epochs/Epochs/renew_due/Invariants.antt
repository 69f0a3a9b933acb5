use Rattle.std.specs.Prelude.{nat_le}
use Rattle.sync_model.specs.State.{copy_clock}
use Rattle.mirror_core.proofs.Renewed.{AreRenewedUpTo}
use Rattle.mirror_core.proofs.epochs.Epochs.renew_due.Given as goal

abbrev pub invariant-loop-c : goal.invariant-loop-c
invariant-loop-c g l = record {
  renewed :
      AreRenewedUpTo l.c (λ c. nat_le l.time (copy_clock l.stack.runs c)) l.fn.self l.self;
}
