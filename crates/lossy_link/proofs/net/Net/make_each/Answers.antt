use Rattle.match_hall.proofs.Along.{on_err_of}
use Rattle.lossy_text.specs.declared.net_line.NetLine.TheVariants.{Issue}
use Rattle.lossy_link.proofs.Making.{made-none, made-more, made-all, made-front}
use Rattle.lossy_link.proofs.net.Net.make_each.Goals as goal

pub loop-line-init : goal.loop-line-init
loop-line-init g c = made-none _ c.args.m.now c.args.lines.now c.args.self.now c.args.out.now.items c.requires.net

pub make-requires-clause-net : goal.make-requires-clause-net
make-requires-clause-net g c = c.loop-line.invariant.way

pub loop-line-preserved : goal.loop-line-preserved
loop-line-preserved g c =
    made-more _ c.args.m.now c.args.lines.now c.loop-line.line-index _ _ _ _ _ _ (Issue 0 0) c.requires.sound c.requires.lines c.loop-line-test.true
    c.loop-line.invariant c.in_ok-make.ensures.state c.in_ok-make.ensures.ok

pub returns-in_err-make-clause-err : goal.returns-in_err-make-clause-err
returns-in_err-make-clause-err g c =
    on_err_of c.from_residual.result (made-front _ c.args.m.now c.args.lines.now c.loop-line.line-index _ _ _ _ _ c.loop-line.invariant c.in_err-make.ensures.err)

pub returns-clause-state : goal.returns-clause-state
returns-clause-state g c = (made-all _ c.args.m.now c.args.lines.now c.loop-line.line-index _ _ _ _ c.loop-line-test.false c.loop-line.invariant).0

pub returns-clause-ok : goal.returns-clause-ok
returns-clause-ok g c = (made-all _ c.args.m.now c.args.lines.now c.loop-line.line-index _ _ _ _ c.loop-line-test.false c.loop-line.invariant).1
