use Rattle.std.proofs.Common.{[], get_or}
use Rattle.game_trait.proofs.Lists.{all-at}
use Rattle.sync_model.specs.Staggered.{IsComplete}
use Rattle.rolling_mirror.proofs.RunItems.{item-told}
use Rattle.rolling_mirror.proofs.rolling.RollingMirror.run_item.Goals as goal

pub later-requires : goal.later-requires
later-requires g c =
    let s = c.self.inside.stack in
    let complete = all-at (IsComplete s.accepted) s.runs c.args.copy [] c.always.ensures.trailing.complete (rw (← c.self.view_is) at c.requires.copy) in
    item-told c.self.inside.base s.accepted (get_or s.runs c.args.copy []) c.args.place c.run_item.result c.self.invariant.due_in_session complete (rw (← c.self.view_is) at c.requires.place) c.run_item.ensures
