-- Steps one after another, up to the first fault, of whatever kind the faults are.
use Rattle.std.specs.Prelude.{Result, Ok, Err}

-- the next step goes on from what this one gave; a fault ends them all
infixl 10 ◌>>=◌
abbrev pub ◌>>=◌ : {A B E : Type 0} → Result A E → (A → Result B E) → Result B E
(Ok x) >>= f = f x
(Err e) >>= f = Err e
