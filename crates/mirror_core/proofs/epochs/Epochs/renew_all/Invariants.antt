use Rattle.std.proofs.Common.{true}
use Rattle.mirror_core.proofs.Renewed.{AreRenewedUpTo}
use Rattle.mirror_core.proofs.epochs.Epochs.renew_all.Given as goal

abbrev pub invariant-loop-c : goal.invariant-loop-c
invariant-loop-c l = record { renewed : AreRenewedUpTo l.c (λ c. true) l.fn.self l.self }
