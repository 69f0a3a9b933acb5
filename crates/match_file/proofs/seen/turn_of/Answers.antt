use Rattle.std.proofs.Common.{arith}
use Rattle.match_file.proofs.SeenLaws.{turn_stands}
use Rattle.match_file.proofs.seen.turn_of.Goals as goal

pub returns : goal.returns
returns c =
    let mirror = c.in-Some-number_before.ensures in
    (omega (arith, mirror.0, c.from.ensures), turn_stands _ _ _ _ c.in-Some.ensures mirror.1)
