use Rattle.std.proofs.Common.{arith}
use Rattle.game_trait.proofs.Lengths.{length-tick_of-due}
use Rattle.repair_copy.proofs.append.append_tick.Goals as goal

pub append_from-requires-clause-room : goal.append_from-requires-clause-room
append_from-requires-clause-room c = (let room = c.requires.room in let whole = length-tick_of-due c.args.list.now.all c.args.t in omega arith)
