use Rattle.std.specs.Prelude.{◌==◌, ◌||◌, nat_lt}
use Rattle.mirror_core.proofs.Renewed.{AreRenewedUpTo}
use Rattle.mirror_core.proofs.epochs.Epochs.renew_stepped.Given as goal

abbrev pub invariant-loop-c : goal.invariant-loop-c
invariant-loop-c l = record {
  renewed :
      AreRenewedUpTo l.c (λ c. (c == l.copy) || nat_lt c l.repaired) l.fn.self l.self;
}
