-- What is printed of the answers to events.
use Rattle.std.specs.Prelude.{ℕ, zero, suc, List, [], ◌∷◌, codes, decimal}
use Rattle.game_trait.specs.declared.event.Ticked.{Ticked}
use Rattle.game_trait.specs.declared.event.Ticked.TheVariants.{Moved, Over}
use Rattle.game_trait.specs.declared.event.Arrived.{Arrived}
use Rattle.game_trait.specs.declared.event.Arrived.TheVariants.{Taken, Repeat, Late}
use Rattle.game_trait.specs.declared.event.Stepped.{Stepped}
use Rattle.game_trait.specs.declared.event.Stepped.TheVariants.{Ran, Idle}
use Rattle.tss_io.specs.Lines.{as_line, spaced}

-- the line of a repair, where copies were repaired
unfoldable pub repair_line : ℕ → ℕ → List ℕ
repair_line mirror zero = []
repair_line mirror (suc n) =
    as_line (spaced (codes "repair" ∷ decimal mirror ∷ decimal (suc n) ∷ []))

-- what the answer to a tick prints
unfoldable pub tick_text : ℕ → Ticked → List ℕ
tick_text mirror Over = as_line (spaced (codes "over" ∷ decimal mirror ∷ []))
tick_text mirror Moved = []

-- what the answer to the arrival of a command prints
unfoldable pub arrival_text : ℕ → ℕ → ℕ → Arrived → List ℕ
arrival_text mirror from number Repeat =
    as_line (spaced (codes "repeat" ∷ decimal mirror ∷ decimal from ∷ decimal number ∷ []))
arrival_text mirror from number (Late bound) =
    as_line (spaced
    (codes "late" ∷ decimal mirror ∷ decimal from ∷ decimal number ∷ decimal bound ∷ []))
arrival_text mirror from number (Taken repaired) = repair_line mirror repaired

-- what the answer to a copy's step prints
unfoldable pub step_text : ℕ → ℕ → Stepped → List ℕ
step_text mirror copy Idle = as_line (spaced (codes "idle" ∷ decimal mirror ∷ decimal copy ∷ []))
step_text mirror copy (Ran repaired) = repair_line mirror repaired
