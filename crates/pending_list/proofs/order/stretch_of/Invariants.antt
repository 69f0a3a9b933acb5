use Rattle.std.proofs.Common.{◌<◌, ◌≤◌, List, length, ℕ}
use Rattle.game_trait.specs.declared.command.Command.{Command}
use Rattle.pending_list.specs.Buckets.{NoneBefore}
use Rattle.pending_list.proofs.order.stretch_of.Given as goal

-- no place from the last on is passed, and the next step is one
pub record IsStepping (x : Command) (ys : List Command) (last step : ℕ) : Type 0 where
  pub within : last ≤ length ys
  pub stopped : NoneBefore x ys last
  pub some : 0 < step

abbrev pub invariant-loop-step : goal.invariant-loop-step
invariant-loop-step l = IsStepping l.x l.in_order l.last l.step

abbrev pub decreases-loop-step : goal.decreases-loop-step
decreases-loop-step l = l.last
