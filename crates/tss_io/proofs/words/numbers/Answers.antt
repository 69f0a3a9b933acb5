use Rattle.std.proofs.lemmas.Result.{err_from_is_err_and}
use Rattle.tss_io.proofs.WordLists.{numbers_on, numbers_fail, numbers_end, numbers_end_fail}
use Rattle.tss_io.proofs.words.numbers.Goals as goal

pub returns-in_err-push_number : goal.returns-in_err-push_number
returns-in_err-push_number c =
    let p = err_from_is_err_and c.from_residual.result c.from_residual.ensures.1 in
    rw (p.1, p.2) (numbers_fail c.args.least c.args.most c.loop-word.numbers c.loop-word.rest.now _ _
    c.in_err-push_number.field-0.0 c.in-Some.ensures.parts c.in_err-push_number.ensures c.loop-word.invariant)

pub loop-word-preserved : goal.loop-word-preserved
loop-word-preserved c =
    numbers_on c.args.least c.args.most c.loop-word.numbers c.push_number.new.numbers c.loop-word.rest.now _ _ c.in-Some.ensures.parts c.in_ok-push_number.ensures c.loop-word.invariant

pub returns-in_err-push_number-2 : goal.returns-in_err-push_number-2
returns-in_err-push_number-2 c =
    let p = err_from_is_err_and c.from_residual-in_err-push_number-2.result c.from_residual-in_err-push_number-2.ensures.1 in
    rw (p.1, p.2) (numbers_end_fail c.args.least c.args.most c.loop-word.numbers c.loop-word.rest.now _
    c.in_err-push_number-2.field-0.0 c.in_default.ensures.parts c.in_err-push_number-2.ensures
    c.loop-word.invariant)

pub returns : goal.returns
returns c =
    numbers_end c.args.least c.args.most c.loop-word.numbers c.push_number-2.new.numbers c.loop-word.rest.now _ c.in_default.ensures.parts c.in_ok-push_number-2.ensures c.loop-word.invariant
