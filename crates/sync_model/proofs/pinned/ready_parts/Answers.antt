use Rattle.std.proofs.Common.{refl, arith}
use Rattle.game_trait.specs.Run.{world_of}
use Rattle.sync_model.specs.Pinned.{AllHold, AllHoldBut}
use Rattle.sync_model.proofs.Computing.{computing}
use Rattle.sync_model.proofs.pinned.ready_parts.Goals as goal

pub returns : goal.returns
unfolding computing AllHold AllHoldBut world_of
returns g c =
    record {
      parts = λ rules s r. (λ h. (h.there, (h.had, (h.due, tt))), λ h. record { there = h.0; had = h.1.0; due = h.1.1.0 });
      due = record { there = omega arith; had = omega arith; due = λ has. record { clock = refl; below_limit = omega arith; world = refl } };
      over = record { there = omega arith; had = omega arith; due = λ has. absurd (omega arith) };
      third_copy = (λ h. (let e = h.there in absurd (omega arith)), (omega arith, (λ has. absurd (omega arith), tt)));
      later_epoch = (λ h. (let e = h.had in absurd (omega arith)), (omega arith, (λ has. absurd (omega arith), tt)));
      not_due = (λ h. (let e = (h.due refl).world in absurd (omega arith)), (omega arith, (omega arith, tt)));
    }
