use Rattle.std.proofs.Common.{refl, arith}
use Rattle.game_trait.specs.Run.{world_of}
use Rattle.sync_model.specs.Pinned.{AllHold, AllHoldBut}
use Rattle.sync_model.proofs.Computing.{computing}
use Rattle.sync_model.proofs.pinned.due_tick_parts.Goals as goal

pub returns : goal.returns
unfolding computing AllHold AllHoldBut world_of
returns g c =
    record {
      parts = λ rules s r. (λ h. (h.clock, (h.below_limit, (h.world, tt))), λ h. record { clock = h.0; below_limit = h.1.0; world = h.1.1.0 });
      due = record { clock = refl; below_limit = omega arith; world = refl };
      other_clock = (λ h. (let e = h.clock in absurd (omega arith)), (omega arith, (refl, tt)));
      at_limit = (λ h. (let e = h.below_limit in absurd (omega arith)), (refl, (refl, tt)));
      other_world = (λ h. (let e = h.world in absurd (omega arith)), (refl, (omega arith, tt)));
    }
