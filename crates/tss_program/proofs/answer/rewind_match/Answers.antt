use Rattle.tss_program.proofs.Within.{within-told}
use Rattle.tss_program.proofs.answer.rewind_match.Goals as goal

pub rewind-requires-clause-ticks : goal.rewind-requires-clause-ticks
rewind-requires-clause-ticks c = within-told _ _ c.are_within.result c.if-not-are_within.false c.are_within.ensures
