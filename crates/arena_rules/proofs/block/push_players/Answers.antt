use Rattle.arena_rules.proofs.Lines.{no_state_lines, state_lines-next}
use Rattle.arena_rules.proofs.block.push_players.Goals as goal

pub loop-number-init : goal.loop-number-init
loop-number-init c = no_state_lines _ _

pub loop-number-preserved : goal.loop-number-preserved
loop-number-preserved c = state_lines-next _ _ c.loop-number.number _ _ _ _ c.loop-number-test.true c.loop-number.invariant (rw c.printed_name.ensures at c.in_ok-push_line.ensures.ok)
