use Rattle.std.proofs.Common.{arith}
use Rattle.pending_list.proofs.Walks.{walk-begun, walk-more, walk-left, walk-done}
use Rattle.repair_copy.proofs.Walking.{executed-none, executed-more, executed-all}
use Rattle.repair_copy.proofs.execute.execute_commands.Goals as goal

pub loop-x-init : goal.loop-x-init
loop-x-init g c = record {
  walked =
      (walk-begun c.args.list.now.all c.args.t c.args.start c.requires).0;
  world =
      executed-none g.G.Game.rules c.args.list.now.all c.args.t c.args.start
      c.args.world.now c.requires;
}

pub loop-x-smaller : goal.loop-x-smaller
loop-x-smaller g c =
    (let left = walk-left c.loop-x.invariant.walked c.in-Some.x c.in-Some.ensures.due in
    let from = c.loop-x.invariant.walked.from in omega arith)

pub loop-x-preserved : goal.loop-x-preserved
loop-x-preserved g c =
    let walked = c.loop-x.invariant.walked in
    let due = c.in-Some.ensures.due in
    record {
      walked = (walk-more walked c.in-Some.x due).0;
      world =
          executed-more walked g.G.Game.rules c.args.world.now c.loop-x.world c.apply.new.self
          c.in-Some.x c.loop-x.invariant.world due c.apply.ensures;
    }

pub returns-clause-count : goal.returns-clause-count
returns-clause-count g c = (walk-done c.loop-x.invariant.walked c.in_default.ensures.due).1.1

pub returns-clause-world : goal.returns-clause-world
returns-clause-world g c =
    executed-all c.loop-x.invariant.walked g.G.Game.rules c.args.world.now c.loop-x.world
    c.loop-x.invariant.world c.in_default.ensures.due
