use Rattle.std.proofs.Common.{refl, sym}
use Rattle.tss_io.specs.Lines.{lines_of}
use Rattle.tss_io.proofs.WalkLaws.{step_long, step_none, step_torn, no_bytes, some_bytes}
use Rattle.tss_io.proofs.lines.no_line.Goals as goal

pub returns-in-Long : goal.returns-in-Long
returns-in-Long c start = step_long start (lines_of c.args.rest.now) (rw c.in-Long.is at c.requires)

pub returns-then-is_empty : goal.returns-then-is_empty
returns-then-is_empty c start = step_none start c.args.rest.now c.args.cause c.requires c.in_default.not-Long (no_bytes c.args.rest.now (sym c.if-is_empty.ensures))

pub returns-else-is_empty : goal.returns-else-is_empty
returns-else-is_empty c start = step_torn start c.args.rest.now (lines_of c.args.rest.now) c.args.cause refl c.requires c.in_default.not-Long (some_bytes c.args.rest.now (sym c.if-is_empty.ensures))
