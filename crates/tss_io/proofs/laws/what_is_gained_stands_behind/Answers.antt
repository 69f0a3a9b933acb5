use Rattle.std.proofs.Common.{◌≡◌, ℕ, ◌++◌, List, Option, Some, None, refl, ap}
use Rattle.tss_io.specs.Streams.{Gains}
use Rattle.tss_io.proofs.laws.what_is_gained_stands_behind.Goals as goal

told : (old piece : List ℕ) (new : Option (List ℕ)) → Gains (Some old) piece new → new ≡ Some (old ++ piece)
told old piece (Some taken) h = ap Some h
told old piece None h = absurd h

untold : (piece : List ℕ) (new : Option (List ℕ)) → Gains None piece new → new ≡ None
untold piece (Some taken) h = absurd h
untold piece None h = refl

pub returns : goal.returns
returns c = record { told = told; untold = untold }
