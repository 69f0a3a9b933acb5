-- The state of a mirror, and how far each copy may go.
use Rattle.std.specs.Prelude.{ℕ, zero, suc, List, [], map, slice_index_or}
use Rattle.game_trait.specs.declared.command.Command.{Command}
use Rattle.game_trait.specs.declared.command.Item.{Item}
use Rattle.game_trait.specs.declared.event.Event.{Event}
use Rattle.game_trait.specs.Run.{beats}
use Rattle.sync_model.specs.declared.turned.Turned.{Turned}
use Rattle.sync_model.specs.Lists.{last_of}
use Rattle.sync_model.specs.Schedule.{Schedule, limit_at}

-- a mirror of a match
pub record MirrorState (W : Type 0) : Type 0 where
  -- the opening world, the match's length in ticks, and its plans of delays, each with a delay for
  -- every copy from copy 0 on, which no event changes
  pub opening : W
  pub length : ℕ
  pub plans : List (List ℕ)
  -- the number of the plan that is in force
  pub plan : ℕ
  -- the clock, the commands that were accepted and those that were turned away, in order of arrival
  pub clock : ℕ
  pub accepted : List Command
  pub turned : List Turned
  -- the runs of the copies, from copy 0 on
  pub runs : List (List Item)
  -- the events that changed the state
  pub history : List Event
  -- for how many more arrivals, and for how many more changes of the plan, there is room
  pub spare : ℕ
  pub plan_spare : ℕ

-- a mirror before any event: plan 0 is in force, and each copy has run nothing
abbrev pub opening_state : {W : Type 0} → W → ℕ → List (List ℕ) → ℕ → ℕ → MirrorState W
opening_state opening length plans spare plan_spare =
    record {
      opening = opening;
      length = length;
      plans = plans;
      plan = 0;
      clock = 0;
      accepted = [];
      turned = [];
      runs = map (λ delay. []) (slice_index_or plans 0 []);
      history = [];
      spare = spare;
      plan_spare = plan_spare;
    }

-- the delays that are in force
abbrev pub delays_of : {W : Type 0} → MirrorState W → List ℕ
delays_of s = slice_index_or s.plans s.plan []

-- the schedule that is in force
abbrev pub schedule_of : {W : Type 0} → MirrorState W → Schedule
schedule_of s = record { delays = delays_of s; length = s.length }

-- the ticks that a copy has ended
abbrev pub copy_clock : List (List Item) → ℕ → ℕ
copy_clock runs c = beats (slice_index_or runs c [])

-- the last copy's clock: an older command is turned away
abbrev pub last_clock : List (List Item) → ℕ
last_clock runs = beats (last_of [] runs)

-- how far a copy may go now; copy 0 has none ahead
unfoldable pub step_limit : {W : Type 0} → MirrorState W → ℕ → ℕ
step_limit s zero = limit_at (schedule_of s) zero s.clock 0
step_limit s (suc c) = limit_at (schedule_of s) (suc c) s.clock (copy_clock s.runs c)
