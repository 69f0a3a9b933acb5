use Rattle.std.proofs.Common.{◌≡◌, ℕ, ◌++◌, List, Option, Some, None, refl}
use Rattle.tss_io.specs.Streams.{Yields}
use Rattle.tss_io.proofs.laws.what_is_yielded_stood_in_front.Goals as goal

told : (old piece : List ℕ) (new : Option (List ℕ)) → Yields (Some old) piece new → (rest : List ℕ) × (new ≡ Some rest) × (old ≡ piece ++ rest)
told old piece (Some rest) h = (rest, refl, h)
told old piece None h = absurd h

untold : (piece : List ℕ) (new : Option (List ℕ)) → Yields None piece new → new ≡ None
untold piece (Some rest) h = absurd h
untold piece None h = refl

pub returns : goal.returns
returns c = record { told = told; untold = untold }
