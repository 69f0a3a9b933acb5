use Rattle.std.proofs.Common.{◌≡◌, ◌+◌, ◌≤◌, length}
use Rattle.tss_io.specs.Lines.{lines_of}
use Rattle.tss_io.specs.Runs.{run_to}
use Rattle.match_file.specs.Reading.{take, is_last, no_body}
use Rattle.match_file.specs.Sections.{IsBody, body_lines}
use Rattle.match_file.proofs.body.read_body.Given as goal

abbrev pub invariant-loop-alloc : goal.invariant-loop-alloc
invariant-loop-alloc l =
    (run_to (take l.opening) is_last l.line l.body (lines_of l.rest) ≡ run_to (take l.opening) is_last l.initial.line no_body (lines_of l.text))
    × IsBody l.opening l.body
    × (l.line ≡ l.initial.line + length (body_lines l.body))
    × (length l.rest ≤ length l.text)

abbrev pub decreases-loop-alloc : goal.decreases-loop-alloc
decreases-loop-alloc l = length l.rest
