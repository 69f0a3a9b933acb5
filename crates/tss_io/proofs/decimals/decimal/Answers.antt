use Rattle.std.proofs.Common.{sym, refl, arith}
use Rattle.std.proofs.lemmas.Bool.{false≢true}
use Rattle.tss_io.proofs.DecimalLaws.{number_of-decimal, number_of-none, padded-decimal, decimal-digits, value-decimal}
use Rattle.tss_io.proofs.decimals.decimal.Goals as goal

pub returns-then-has_leading_zero-clause-none : goal.returns-then-has_leading_zero-clause-none
returns-then-has_leading_zero-clause-none c = λ n le e.
    let padded = c.if-has_leading_zero.ensures.0 refl in
    padded-decimal c.args.word.now n padded.0 padded.1 (omega arith) e

pub returns-then-has_leading_zero-clause-exact : goal.returns-then-has_leading_zero-clause-exact
returns-then-has_leading_zero-clause-exact c =
    sym (number_of-none c.args.word.now c.args.most (returns-then-has_leading_zero-clause-none c))

pub returns-in_default-clause-none : goal.returns-in_default-clause-none
returns-in_default-clause-none c = λ n le e.
    let over = c.in_default.ensures.none (value-decimal c.args.word.now n e (omega arith)).0 in
    absurd (omega (arith, (value-decimal c.args.word.now n e (omega arith)).1))

pub returns-in_default-clause-exact : goal.returns-in_default-clause-exact
returns-in_default-clause-exact c =
    sym (number_of-none c.args.word.now c.args.most (returns-in_default-clause-none c))

pub returns-then-number-most-clause-some : goal.returns-then-number-most-clause-some
returns-then-number-most-clause-some c =
    let found = c.in-Some.ensures.some in
    (rw found.1 (decimal-digits c.args.word.now found.0 (λ padded. false≢true (c.if-has_leading_zero.ensures.1 padded)) (omega (arith, found.1))), omega arith)

pub returns-then-number-most-clause-exact : goal.returns-then-number-most-clause-exact
returns-then-number-most-clause-exact c =
    let found = returns-then-number-most-clause-some c in
    rw found.0 (sym (number_of-decimal c.in-Some.number c.args.most found.1 (omega arith)))

pub returns-else-number-most-clause-none : goal.returns-else-number-most-clause-none
returns-else-number-most-clause-none c = λ n le e.
    absurd (omega (arith, c.in-Some.ensures.some.1, (value-decimal c.args.word.now n e (omega arith)).1))

pub returns-else-number-most-clause-exact : goal.returns-else-number-most-clause-exact
returns-else-number-most-clause-exact c =
    sym (number_of-none c.args.word.now c.args.most (returns-else-number-most-clause-none c))
