-- The words of which printed lines are made.
use Rattle.std.specs.Prelude.{ℕ, List, ◌∷◌, decimal, flat_map}
use Rattle.std.specs.Fmt.{signed_decimal}
use Rattle.tss_io.specs.declared.line.Word.{Word}
use Rattle.tss_io.specs.declared.line.Word.TheVariants.{Text, Number, Count}

-- the bytes of a word: a text as it is, a number or a count in decimal
abbrev pub word_bytes : Word → List ℕ
word_bytes (Text text) = text.now
word_bytes (Number number) = signed_decimal number
word_bytes (Count count) = decimal count

-- words, each behind a space
abbrev pub behind_spaces : {W : Type 0} → (W → List ℕ) → List W → List ℕ
behind_spaces bytes words = flat_map (λ w. 32 ∷ bytes w) words
