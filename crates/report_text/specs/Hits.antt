-- How many looks at the ticks of a match found a world that was cached.
use Rattle.std.specs.Prelude.{ℕ, List, [], ◌∷◌, codes, decimal}
use Rattle.tss_io.specs.Lines.{as_line, spaced}

-- the line that tells how many looks hit
unfoldable pub hits_line : ℕ → List ℕ
hits_line hits = as_line (spaced (codes "hits" ∷ decimal hits ∷ []))
