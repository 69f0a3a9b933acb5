use Rattle.std.proofs.Common.{arith}
use Rattle.pending_list.proofs.Walks.{start-next}
use Rattle.repair_copy.proofs.append.tick_len.Goals as goal
use Rattle.game_trait.proofs.Lengths.{length-tick_of-due}

pub overflow_sub-result : goal.overflow_sub-result
overflow_sub-result c =
    (let more = start-next c.args.list.now.all c.args.t in
    let at = c.end.ensures in let from = c.requires.start in omega arith)

pub overflow_add-result : goal.overflow_add-result
overflow_add-result c =
    (let more = start-next c.args.list.now.all c.args.t in
    let whole = length-tick_of-due c.args.list.now.all c.args.t in
    let few = c.requires.few in
    let at = c.end.ensures in
    let from = c.requires.start in
    omega arith)

pub returns : goal.returns
returns c =
    (let more = start-next c.args.list.now.all c.args.t in
    let whole = length-tick_of-due c.args.list.now.all c.args.t in
    let at = c.end.ensures in
    let from = c.requires.start in
    omega arith)
