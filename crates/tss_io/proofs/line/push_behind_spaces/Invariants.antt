use Rattle.std.proofs.Common.{◌≡◌, ◌++◌, take}
use Rattle.tss_io.specs.Words.{word_bytes, behind_spaces}
use Rattle.tss_io.proofs.line.push_behind_spaces.Given as goal

abbrev pub invariant-loop-word : goal.invariant-loop-word
invariant-loop-word l = l.out.items ≡ l.fn.out.items ++ behind_spaces word_bytes (take l.word-index l.words)
