use Rattle.std.proofs.Common.{arith}
use Rattle.sync_model.proofs.pinned.fits_parts.Goals as goal

pub returns : goal.returns
returns g c =
    record {
      last_tick = λ o. omega arith;
      no_tick = λ o h. absurd (omega arith);
      last_copy = λ o. omega arith;
      no_copy = λ o h. absurd (omega arith);
      last_plan = λ o. omega arith;
      no_plan = λ o h. absurd (omega arith);
    }
