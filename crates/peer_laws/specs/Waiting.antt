-- What of parts that are due waits behind where the last packet ended.
use Rattle.std.specs.Prelude.{◌≡◌, ℕ, suc, Bool, not, nat_lt, ◌==◌, ◌&&◌, ◌||◌, Option, Some, None, List, [], ◌∷◌}
use Rattle.std.specs.List.{flat_map, filter}
use Rattle.peer_packet.specs.declared.cursor.Cursor.{Cursor}
use Rattle.peer_packet.specs.Packet.{Sent, Part}

-- a command by its slot and number; of a part without commands, where it stands
pub record Named : Type 0 where
  pub origin : ℕ
  pub number : ℕ
  pub sent : Option Sent

unfoldable pub named_from : ℕ → ℕ → List Sent → List Named
named_from o n [] = []
named_from o n (c ∷ cs) = record { origin = o; number = n; sent = Some c } ∷ named_from o (suc n) cs

abbrev pub named_in : ℕ → ℕ → List Sent → List Named
named_in o n [] = record { origin = o; number = n; sent = None } ∷ []
named_in o n (c ∷ cs) = record { origin = o; number = n; sent = Some c } ∷ named_from o (suc n) cs

abbrev pub named_of : Part → List Named
named_of p = named_in p.origin p.first p.commands

abbrev pub all_named : List Part → List Named
all_named ps = flat_map named_of ps

-- it was put before: it stands in a slot below the cursor's, or in its slot below its number
abbrev pub is_before : Cursor → Named → Bool
is_before c x = nat_lt x.origin c.slot || ((x.origin == c.slot) && nat_lt x.number c.number)

abbrev pub not_before : Cursor → List Part → List Named
not_before c due = filter (λ x. not (is_before c x)) (all_named due)

-- what wasn't put waits, and where nothing is left all that is due
abbrev pub IsRest : List Named → List Part → List Part → Type 0
IsRest [] due waits = waits ≡ due
IsRest (x ∷ xs) due waits = all_named waits ≡ x ∷ xs
