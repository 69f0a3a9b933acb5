use Rattle.std.proofs.Common.{arith}
use Rattle.match_file.proofs.SeenLaws.{arrival_stands}
use Rattle.match_file.proofs.seen.arrival_of.Goals as goal

pub returns : goal.returns
returns c =
    let mirror = c.in-Some-number_before.ensures in
    let from = c.in-Some-number_before-2.ensures in
    let number = c.in-Some-number_before-3.ensures in (
      omega (arith, mirror.0, c.from.ensures),
      omega (arith, from.0, c.from-2.ensures),
      number.0,
      arrival_stands _ _ _ _ _ _ _ _ c.in-Some.ensures mirror.1 from.1 number.1,
    )
