-- What the words behind the program's name ask for.
use Rattle.std.specs.Prelude.{ℕ, List, [], ◌∷◌, Option, None, codes}
use Rattle.tss_io.specs.Decimals.{number_of}
use Rattle.tss_io.specs.Lines.{as_line}

-- the mirror that they name: they are one word, the canonical decimal of a number up to 7
unfoldable pub mirror_of : List (List ℕ) → Option ℕ
mirror_of [] = None
mirror_of (word ∷ []) = number_of word 7
mirror_of (word ∷ next ∷ words) = None

-- the line for words that name none
unfoldable pub usage_text : List ℕ
usage_text = as_line (codes "usage: tss_mirror M")
