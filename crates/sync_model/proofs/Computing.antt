-- The definitions that the worked runs compute with.
use Rattle.std.proofs.Common.{ℕ}
use Rattle.game_trait.specs.Run.{beats, same_item, same_command, commands_of}
use Rattle.game_trait.specs.Keys.{same_name, key_lt, in_key_order, placed}
use Rattle.game_trait.specs.Count.{times}
use Rattle.game_trait.specs.Ordered.{ticks}
use Rattle.sync_model.specs.Lists.{last_of}
use Rattle.sync_model.specs.Schedule.{limit_at}
use Rattle.sync_model.specs.State.{step_limit}
use Rattle.sync_model.specs.Settle.{settle, settle_one, which_repaired, is_repaired}
use Rattle.sync_model.specs.Change.{next, said, after, answers, with_late, with_tick}
use Rattle.sync_model.specs.Turns.{steps_from, turns_of, drain_within}
use Rattle.sync_model.specs.History.{repairs_in}
use Rattle.sync_model.specs.Drafts.{renewals}

-- named on a line of its own, this opens them all
unfoldable pub computing : ℕ
unfolding beats same_item same_command commands_of same_name key_lt in_key_order placed times ticks last_of limit_at
    step_limit settle settle_one which_repaired is_repaired next said after answers with_late with_tick steps_from
    turns_of drain_within repairs_in renewals
computing = 0
