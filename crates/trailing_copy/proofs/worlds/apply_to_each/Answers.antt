use Rattle.std.proofs.Common.{arith}
use Rattle.trailing_copy.proofs.Arriving.{applied-none, applied-more}
use Rattle.trailing_copy.proofs.worlds.apply_to_each.Goals as goal

pub loop-c-init : goal.loop-c-init
loop-c-init g c = applied-none g.G.Game.rules c.args.x.now c.args.first c.args.worlds.now.items

pub loop-c-preserved : goal.loop-c-preserved
loop-c-preserved g c =
    let ok = c.args.worlds.now.ok.0 in
    let there = c.requires.there in
    applied-more g.G.Game.rules c.args.x.now c.args.first c.loop-c.c c.args.worlds.now.items
    c.loop-c.worlds.items c.index_mut.result.now c.apply.new.self c.loop-c.invariant
    (omega arith) c.index_mut.ensures.value c.apply.ensures

pub returns-clause-each : goal.returns-clause-each
returns-clause-each g c = λ d i from upto.
    c.loop-c.invariant.each d i from (let done = c.loop-c-test.false in omega arith)

pub returns-clause-ahead : goal.returns-clause-ahead
returns-clause-ahead g c = c.loop-c.invariant.ahead
