use Rattle.std.proofs.Common.{refl, arith}
use Rattle.sync_model.proofs.Computing.{computing}
use Rattle.sync_model.proofs.pinned.drained_parts.Goals as goal

pub returns : goal.returns
unfolding computing
returns g c =
    record {
      all = λ o. (refl, (refl, tt));
      last = λ o h. (let e = h.1.0 in absurd (omega arith));
      first = λ o h. (let e = h.0 in absurd (omega arith));
      past = λ o h. (let e = h.0 in absurd (omega arith));
    }
