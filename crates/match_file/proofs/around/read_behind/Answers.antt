use Rattle.std.proofs.Common.{arith, refl, sym, ◌∙◌}
use Rattle.std.proofs.lemmas.Result.{err_from_is_err_and}
use Rattle.tss_io.specs.Lines.{lines_of}
use Rattle.tss_io.proofs.RunToLaws.{to_on, to_stop, to_end}
use Rattle.match_file.proofs.MetLaws.{met_start, met_on}
use Rattle.match_file.proofs.around.read_behind.Goals as goal

pub loop-alloc-init : goal.loop-alloc-init
loop-alloc-init g c =
    let machine = g.T.BehindMatch.machine c.args.game.now in
    rw c.new-tail.ensures (refl, met_start machine g.T.BehindMatch.start, omega arith)

pub returns-in_err-rest : goal.returns-in_err-rest
returns-in_err-rest g c =
    let machine = g.T.BehindMatch.machine c.args.game.now in
    let p = err_from_is_err_and c.from_residual.result c.from_residual.ensures.1 in
    rw (p.1, p.2) (to_stop machine.take machine.is_last c.loop-alloc.line c.loop-alloc.tail
    (lines_of c.loop-alloc.rest.now) _ c.in_err-rest.field-0.0 (sym (c.is_last.ensures c.args.game.now) ∙ c.loop-alloc-test.true)
    c.in_err-rest.ensures.read c.loop-alloc.invariant.0)

pub loop-alloc-preserved : goal.loop-alloc-preserved
loop-alloc-preserved g c =
    let machine = g.T.BehindMatch.machine c.args.game.now in
    let less = c.in_ok-rest.ensures.shorter in
    let going = sym (c.is_last.ensures c.args.game.now) ∙ c.loop-alloc-test.true in (
      to_on machine.take machine.is_last c.loop-alloc.line c.loop-alloc.tail c.take_line.new.tail
          (lines_of c.loop-alloc.rest.now) (lines_of c.in_ok-rest.rest.now) _ going c.in_ok-rest.ensures.read c.loop-alloc.invariant.0,
      met_on machine g.T.BehindMatch.start c.loop-alloc.tail c.take_line.new.tail
          (lines_of c.loop-alloc.rest.now) (lines_of c.in_ok-rest.rest.now) c.loop-alloc.invariant.1 going c.in_ok-rest.ensures.read,
      omega (arith, c.loop-alloc.invariant.2),
    )

pub returns : goal.returns
returns g c =
    let machine = g.T.BehindMatch.machine c.args.game.now in
    to_end machine.take machine.is_last c.loop-alloc.line c.loop-alloc.tail
    (lines_of c.loop-alloc.rest.now) _ (sym (c.is_last.ensures c.args.game.now) ∙ c.loop-alloc-test.false) c.loop-alloc.invariant.0
