-- What is printed of a match that a number makes.
use Rattle.std.specs.Prelude.{ℕ, Bool, true, false, List, [], ◌∷◌, codes, decimal}
use Rattle.tss_io.specs.Lines.{as_line, spaced}

-- the first line: the number that makes the match, and how many commands it has
unfoldable pub soak_line : ℕ → ℕ → List ℕ
soak_line number commands =
    as_line (spaced (codes "soak" ∷ decimal number ∷ codes "commands" ∷ decimal commands ∷ []))

-- the line that tells whether all copies of all mirrors have one world
unfoldable pub same_line : Bool → List ℕ
same_line true = as_line (spaced (codes "same" ∷ codes "yes" ∷ []))
same_line false = as_line (spaced (codes "same" ∷ codes "no" ∷ []))
