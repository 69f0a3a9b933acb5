use Rattle.std.proofs.Common.{arith}
use Rattle.std.proofs.lemmas.Bool.{leb-true}
use Rattle.tss_io.proofs.FormLaws.{numbers_takes}
use Rattle.match_file.proofs.opening.delays_line.Goals as goal

pub returns-clause-few : goal.returns-clause-few
returns-clause-few c =
    let few = leb-true _ _ c.in_ok-check.ensures.ok in
    let counted = c.count.ensures in
    omega (arith, (numbers_takes _ _ _ _ c.in_ok-delays.ensures).2)
