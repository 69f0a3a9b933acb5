use Rattle.std.proofs.Common.{arith}
use Rattle.race_hall.proofs.crews.shares.Goals as goal

pub overflow_add-plan : goal.overflow_add-plan
overflow_add-plan c = (let a = c.len-plan.ensures in let b = c.requires.plan in let d = c.from.ensures in let e = c.requires.foreign in omega arith)
