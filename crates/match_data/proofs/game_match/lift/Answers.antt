use Rattle.match_data.proofs.LiftLaws.{lifted_match}
use Rattle.match_data.proofs.game_match.lift.Goals as goal

pub invariant_of-lifted : goal.invariant_of-lifted
invariant_of-lifted c = lifted_match _ c.lifted.invariant
