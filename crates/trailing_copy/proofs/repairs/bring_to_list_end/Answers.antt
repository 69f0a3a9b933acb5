use Rattle.std.proofs.Common.{◌≡◌, ◌∙◌, ap, arith, length}
use Rattle.executed_list.specs.Segments.{OneList, end_of}
use Rattle.trailing_copy.proofs.Lists.{brought-more, filled-at}
use Rattle.trailing_copy.proofs.repairs.bring_to_list_end.Goals as goal

pub loop-c-preserved : goal.loop-c-preserved
loop-c-preserved c =
    let there = c.requires.there in
    let inside = c.loop-c-test.true in
    let len = c.len.ensures in
    let upto = c.requires.upto in
    let own : end_of c.loop-c.run.ends c.loop-c.c ≡ c.args.from =
    ap (λ (l : OneList). end_of l.ends c.loop-c.c) c.loop-c.invariant
    ∙ filled-at c.args.run.now.ends c.loop-c.c (length c.args.run.now.items) (omega arith)
    ∙ c.requires.at c.loop-c.c (let from = c.loop-c.auto.c in omega arith) (omega arith) in
    c.pass.ensures
    ∙ brought-more c.args.run.now c.loop-c.run c.loop-c.c (length c.args.run.now.items) 0 _
    c.loop-c.invariant (omega arith) (omega arith)
