-- How a stagger keeps its schedule.
use Rattle.std.specs.Prelude.{◌≡◌, ℕ, ◌-◌, ◌≤◌, List, ◌++◌, length, take, replicate}
use Rattle.game_trait.specs.declared.limits.TheConstants.{MOST_COPIES}
use Rattle.sync_model.specs.Schedule.{IsSchedule}

-- a place for each copy that there may be, of which the first ones are the delays and the others
-- are 0
pub record IsStored (places : List ℕ) (copies length_in_ticks : ℕ) : Type 0 where
  pub full : length places ≡ MOST_COPIES
  pub within : copies ≤ MOST_COPIES
  pub rest : places ≡ take copies places ++ replicate (MOST_COPIES - copies) 0
  pub schedule : IsSchedule (record { delays = take copies places; length = length_in_ticks })
