use Rattle.std.proofs.Common.{◌≡◌, ◌+◌, ◌≤◌, length}
use Rattle.tss_io.specs.Lines.{words_of}
use Rattle.tss_io.proofs.words.count.Given as goal

abbrev pub invariant-loop-after : goal.invariant-loop-after
invariant-loop-after l = (l.count + length (words_of l.rest) ≡ 1 + length (words_of l.words)) × (l.count + length l.rest ≤ 1 + length l.words)

abbrev pub decreases-loop-after : goal.decreases-loop-after
decreases-loop-after l = length l.rest
