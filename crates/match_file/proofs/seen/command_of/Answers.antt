use Rattle.std.proofs.Common.{arith}
use Rattle.match_file.proofs.SeenLaws.{command_stands}
use Rattle.match_file.proofs.seen.command_of.Goals as goal

pub returns : goal.returns
returns c =
    let time = c.in-Some-number_before.ensures in
    let from = c.in-Some-number_before-2.ensures in
    let number = c.in-Some-number_before-3.ensures in
    let player = c.in-Some-number_before-4.ensures in
    let act = c.in-Some-act_before.ensures in (
      λ version. ((omega arith, time.0), ((omega arith, omega (arith, from.0, c.from.ensures)), ((omega arith, number.0), ((omega arith, omega (arith, player.0, c.from-2.ensures)), act.0 version)))),
      command_stands _ _ _ _ _ _ _ _ c.in-Some.ensures time.1 from.1 number.1 player.1 act.1,
    )
