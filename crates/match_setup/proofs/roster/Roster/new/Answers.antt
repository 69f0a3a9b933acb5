use Rattle.match_setup.proofs.Names.{PlayerNamesDiffer-nil}
use Rattle.match_setup.proofs.roster.Roster.new.Goals as goal

pub invariant_of-result : goal.invariant_of-result
invariant_of-result c = rw c.new.ensures.empty PlayerNamesDiffer-nil
