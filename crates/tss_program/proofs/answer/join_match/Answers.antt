use Rattle.std.proofs.Common.{ap, arith}
use Rattle.match_data.specs.Data.{MatchData}
use Rattle.tss_program.specs.Due.{joined}
use Rattle.tss_program.proofs.answer.join_match.Goals as goal

pub returns : goal.returns
returns c =
    joined c.in_ok-answer.answer (let a = c.if-mirror-m.false in let b = ap (λ (d : MatchData). d.mirrors) c.m.view_is in omega arith) c.in_ok-answer.ensures
    c.due_of_join.ensures
