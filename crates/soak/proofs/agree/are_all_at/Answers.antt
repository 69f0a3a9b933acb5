use Rattle.sync_model.specs.Turns.{IsDrained}
use Rattle.soak.proofs.Agreed.{all-got}
use Rattle.soak.proofs.agree.are_all_at.Goals as goal

pub is_all_at-requires : goal.is_all_at-requires
is_all_at-requires c = all-got (λ s. IsDrained s) c.args.hall.now c.loop-number.number _ c.requires.drained c.mirror.ensures
