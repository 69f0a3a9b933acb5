use Rattle.std.proofs.Common.{◌≡◌, length, ◌++◌, Ok}
use Rattle.tss_io.specs.Results.{◌>>=◌}
use Rattle.tss_io.specs.Lines.{words_of}
use Rattle.tss_io.specs.Forms.{numbers_in}
use Rattle.tss_io.proofs.words.numbers.Given as goal

abbrev pub invariant-loop-word : goal.invariant-loop-word
invariant-loop-word l = (numbers_in l.least l.most (words_of l.rest) >>= λ more. Ok (l.numbers ++ more)) ≡ numbers_in l.least l.most (words_of l.words)

abbrev pub decreases-loop-word : goal.decreases-loop-word
decreases-loop-word l = length l.rest
