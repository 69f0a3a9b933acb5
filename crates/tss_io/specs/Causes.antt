-- How causes of refusal are printed.
use Rattle.std.specs.Prelude.{ℕ, List, [], ◌∷◌, codes, decimal}
use Rattle.tss_io.specs.declared.cause.Cause.{Cause}
use Rattle.tss_io.specs.declared.cause.Cause.TheVariants.{Head, Shape, Number, Place, Name, Order, Many, End, Long}
use Rattle.tss_io.specs.declared.fault.Refused.{Refused}

-- a cause's number
abbrev pub cause_number : Cause → ℕ
cause_number Head = 1
cause_number Shape = 2
cause_number Number = 3
cause_number Place = 4
cause_number Name = 5
cause_number Order = 6
cause_number Many = 7
cause_number End = 8
cause_number Long = 9

-- a cause's word
abbrev pub cause_word : Cause → List ℕ
cause_word Head = codes "head"
cause_word Shape = codes "shape"
cause_word Number = codes "number"
cause_word Place = codes "place"
cause_word Name = codes "name"
cause_word Order = codes "order"
cause_word Many = codes "many"
cause_word End = codes "end"
cause_word Long = codes "long"

-- the words of the line that tells a refusal
abbrev pub refused_words : Refused → List (List ℕ)
refused_words refused =
    codes "refused" ∷ codes "line" ∷ decimal refused.line ∷ codes "cause"
    ∷ decimal (cause_number refused.cause) ∷ cause_word refused.cause ∷ []
