use Rattle.std.proofs.Common.{◌≡◌, ◌+◌, ◌≤◌, length}
use Rattle.tss_io.specs.Lines.{lines_of}
use Rattle.tss_io.specs.Runs.{run_to}
use Rattle.match_file.specs.Around.{IsMet}
use Rattle.match_file.proofs.around.read_behind.Given as goal

abbrev pub invariant-loop-alloc : goal.invariant-loop-alloc
invariant-loop-alloc g l =
    let machine = g.T.BehindMatch.machine l.game in
    (run_to machine.take machine.is_last l.line l.tail (lines_of l.rest) ≡ run_to machine.take machine.is_last l.initial.line g.T.BehindMatch.start (lines_of l.text))
    × IsMet machine g.T.BehindMatch.start l.tail
    × (l.line + length l.rest ≤ l.initial.line + length l.text)

abbrev pub decreases-loop-alloc : goal.decreases-loop-alloc
decreases-loop-alloc g l = length l.rest
