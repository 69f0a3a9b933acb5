use Rattle.std.proofs.Common.{◌≡◌, ◌≤◌, ◌+◌, ◌*◌, ◌<◌, ℕ, List, ◌∷◌, length, take, drop, get_or, add-one, arith}
use Rattle.std.proofs.Math.Seq.{drop-cons}
use Rattle.std.specs.Char.{digit_value}
use Rattle.std.specs.Str.Parse.{digits_value}
use Rattle.std.proofs.lemmas.Int.Digits.{digits_value_more}
use Rattle.std.proofs.lemmas.Str.{digit_value_digit}
use Rattle.std.proofs.lemmas.Str.Parse.{digits_value-take-le}
use Rattle.tss_io.proofs.decimals.digits.Goals as goal

-- one digit more, and the whole is no smaller
next_digit : (word : List ℕ) (i n : ℕ) → i < length word → n ≡ digits_value 10 (take i word) → n * 10 + digit_value (get_or word i 0) ≤ digits_value 10 word
next_digit word i n lt is = omega (arith, digits_value_more 10 word i lt, digits_value-take-le 10 word (i + 1) (omega arith))

pub returns-in_default-clause-none : goal.returns-in_default-clause-none
returns-in_default-clause-none c = λ _.
    let most = next_digit c.args.word.now c.loop-digit.digit-index c.loop-digit.number (omega arith) c.loop-digit.invariant.value in
    omega (arith, c.in_default.ensures)

pub returns-in_default-checked_add-clause-none : goal.returns-in_default-checked_add-clause-none
returns-in_default-checked_add-clause-none c = λ _.
    let most = next_digit c.args.word.now c.loop-digit.digit-index c.loop-digit.number (omega arith) c.loop-digit.invariant.value in
    let digit = digit_value_digit (get_or c.args.word.now c.loop-digit.digit-index 0) c.if-not-is_ascii_digit.ensures.cases in
    omega (arith, c.in_default-checked_add.ensures, c.in-Some.ensures.1)

pub loop-digit-preserved : goal.loop-digit-preserved
loop-digit-preserved c =
    let i = c.loop-digit.digit-index in
    let lt : i < length c.args.word.now = omega arith in
    let digit = digit_value_digit (get_or c.args.word.now i 0) c.if-not-is_ascii_digit.ensures.cases in
    let e : drop i c.args.word.now ≡ get_or c.args.word.now i 0 ∷ drop (i + 1) c.args.word.now = rw add-one (drop-cons c.args.word.now i 0 lt) in
    record {
      value = omega (arith, digits_value_more 10 c.args.word.now i lt, c.in-Some-checked_add.ensures.1, c.in-Some.ensures.1);
      to = λ all. (rw e at (c.loop-digit.invariant.to all)).1;
      from = λ rest. c.loop-digit.invariant.from (rw e (c.if-not-is_ascii_digit.ensures.bound, rest));
    }
