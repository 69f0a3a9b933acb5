use Rattle.std.proofs.Common.{◌≡◌, take, drop}
use Rattle.std.specs.Str.Parse.{AllDigits, digits_value}
use Rattle.tss_io.proofs.decimals.digits.Given as goal

abbrev pub invariant-loop-digit : goal.invariant-loop-digit
invariant-loop-digit l = record {
  value : l.number ≡ digits_value 10 (take l.digit-index l.word);
  to : AllDigits 10 l.word → AllDigits 10 (drop l.digit-index l.word);
  from : AllDigits 10 (drop l.digit-index l.word) → AllDigits 10 l.word;
}
