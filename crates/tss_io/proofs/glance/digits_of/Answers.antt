use Rattle.std.proofs.Common.{◌≡◌, ◌<◌, length, get_or, arith}
use Rattle.std.proofs.lemmas.Int.Digits.{digits_value_more}
use Rattle.std.proofs.lemmas.Str.{digit_value_digit}
use Rattle.tss_io.proofs.FrontLaws.{digits_more}
use Rattle.tss_io.proofs.glance.digits_of.Goals as goal

pub loop-at-preserved : goal.loop-at-preserved
loop-at-preserved c =
    let at = c.loop-at.at in
    let lt : at < length c.args.text.now = omega arith in
    let digit = digit_value_digit (get_or c.args.text.now at 0) (omega arith, omega arith) in
    record {
      within = omega arith;
      value = omega (arith, digits_value_more 10 c.args.text.now at lt, c.loop-at.invariant.value, c.from.ensures);
      digits = digits_more c.args.text.now at lt c.loop-at.invariant.digits (omega arith);
    }
