use Rattle.std.proofs.Common.{arith}
use Rattle.std.proofs.lemmas.Grind.{common_steps}
use Rattle.match_file.proofs.script.Script.push.Goals as goal

pub overflow_add-shown : goal.overflow_add-shown
overflow_add-shown c = grind (arith, common_steps)

pub invariant_of-self-2 : goal.invariant_of-self-2
invariant_of-self-2 c = grind (arith, common_steps)
