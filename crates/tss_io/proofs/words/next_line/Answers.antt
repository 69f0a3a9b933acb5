use Rattle.std.proofs.Common.{arith}
use Rattle.tss_io.proofs.LineSteps.{line_at-some, line_at-long, line_at-torn, line_at-torn_long}
use Rattle.tss_io.proofs.words.next_line.Goals as goal

pub returns-then-text-gt-LONGEST_LINE-clause-read : goal.returns-then-text-gt-LONGEST_LINE-clause-read
returns-then-text-gt-LONGEST_LINE-clause-read c = line_at-torn_long c.args.text.now c.in-None.ensures.parts (omega arith)

pub returns-else-text-gt-LONGEST_LINE-clause-read : goal.returns-else-text-gt-LONGEST_LINE-clause-read
returns-else-text-gt-LONGEST_LINE-clause-read c = line_at-torn c.args.text.now c.in-None.ensures.parts (omega arith)

pub returns-then-line-gt-LONGEST_LINE-clause-read : goal.returns-then-line-gt-LONGEST_LINE-clause-read
returns-then-line-gt-LONGEST_LINE-clause-read c = line_at-long c.args.text.now _ c.in-Some.ensures.parts (omega arith)

pub returns-else-line-gt-LONGEST_LINE-clause-read : goal.returns-else-line-gt-LONGEST_LINE-clause-read
returns-else-line-gt-LONGEST_LINE-clause-read c = line_at-some c.args.text.now _ c.in-Some.ensures.parts (omega arith)
