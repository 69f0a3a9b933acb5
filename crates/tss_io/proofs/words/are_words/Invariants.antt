use Rattle.std.proofs.Common.{◌≡◌, length}
use Rattle.std.specs.List.{list_all}
use Rattle.tss_io.specs.Lines.{words_of}
use Rattle.tss_io.specs.Forms.{is_word}
use Rattle.tss_io.proofs.words.are_words.Given as goal

abbrev pub invariant-loop-word : goal.invariant-loop-word
invariant-loop-word l = list_all is_word (words_of l.rest) ≡ list_all is_word (words_of l.words)

abbrev pub decreases-loop-word : goal.decreases-loop-word
decreases-loop-word l = length l.rest
