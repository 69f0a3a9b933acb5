-- The last line of a text, and the texts that are one line.
use Rattle.std.specs.Prelude.{ℕ, List, [], ◌∷◌, ◌++◌, codes}
use Rattle.tss_io.specs.Lines.{as_line, spaced}
use Rattle.tss_io.specs.Causes.{refused_words}
use Rattle.tss_io.specs.declared.fault.Refused.{Refused}

-- the last line
unfoldable pub done_line : List ℕ
done_line = as_line (spaced (codes "done" ∷ []))

-- the text that tells of a refused text its line and cause
unfoldable pub refused_text : Refused → List ℕ
refused_text r = as_line (spaced (refused_words r))

-- the text for words that ask for nothing
unfoldable pub usage_text : List ℕ
usage_text =
    codes "usage: tss order|play|race|audit|score|lift|soak N|paint order|paint play|lossy|join M K|rewind E C T ..." ++ 10 ∷ []
