use Rattle.std.proofs.Common.{◌≡◌, ◌∷◌, map, take}
use Rattle.std.specs.Prelude.{decimal}
use Rattle.tss_io.specs.Words.{word_bytes}
use Rattle.match_file.proofs.printing.push_numbers.Given as goal

abbrev pub invariant-loop-number : goal.invariant-loop-number
invariant-loop-number l = map word_bytes l.words.items ≡ l.word ∷ map decimal (take l.number-index l.numbers)
