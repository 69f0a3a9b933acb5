use Rattle.std.proofs.Common.{sym}
use Rattle.tss_io.proofs.LineLaws.{cut_at-some, cut_at-none}
use Rattle.tss_io.proofs.words.cut.Goals as goal

pub returns-in-Some-clause-parts : goal.returns-in-Some-clause-parts
returns-in-Some-clause-parts c =
    rw (c.split_at.ensures.front, c.split_at-in-Some.ensures.back, c.split_at.ensures.back) (cut_at-some c.args.byte c.args.bytes.now c.in-Some.at (sym c.in-Some.ensures))

pub returns-in-None-clause-parts : goal.returns-in-None-clause-parts
returns-in-None-clause-parts c = cut_at-none c.args.byte c.args.bytes.now (sym c.in-None.ensures)
