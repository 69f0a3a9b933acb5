-- What is always true of a mirror.
use Rattle.std.specs.Prelude.{◌≡◌, ℕ, zero, ◌+◌, ◌-◌, ◌≤◌, ◌<◌, Bool, false, ◌&&◌, nat_lt, max, List, [], ◌∷◌}
use Rattle.std.specs.List.{AllByRecursion, AllZip, list_any}
use Rattle.game_trait.specs.declared.command.Command.{Command}
use Rattle.game_trait.specs.declared.command.Item.{Item}
use Rattle.game_trait.specs.declared.command.Item.TheVariants.{Cmd, Beat}
use Rattle.game_trait.specs.Run.{beats, commands_of, IsPrefix}
use Rattle.game_trait.specs.Keys.{NamesDiffer}
use Rattle.game_trait.specs.Ordered.{ordered}
use Rattle.game_trait.specs.Count.{times}
use Rattle.game_trait.specs.Events.{is_restagger}
use Rattle.sync_model.specs.Lists.{last_of}
use Rattle.sync_model.specs.Schedule.{longest_delay}
use Rattle.sync_model.specs.State.{MirrorState, delays_of, last_clock}

-- the first of the runs behind, if there is one, is a prefix of this run
unfoldable pub IsAhead : List Item → List (List Item) → Type 0
IsAhead run [] = Unit {0}
IsAhead run (behind ∷ rest) = IsPrefix behind run

-- each copy's run begins with the run of the copy behind it
unfoldable pub IsChained : List (List Item) → Type 0
IsChained [] = Unit {0}
IsChained (run ∷ behind) = IsAhead run behind × IsChained behind

-- a run has each accepted command that is older than its clock exactly once, and no other: any test
-- passes as often on either side
unfoldable pub IsComplete : List Command → List Item → Type 0
IsComplete accepted run =
    (test : Command → Bool)
    → times test (commands_of run) ≡ times (λ x. test x && nat_lt x.time (beats run)) accepted

-- after n beats, each command of the rest of a run stands after at least as many beats as its
-- time
unfoldable pub IsNeverEarly : ℕ → List Item → Type 0
IsNeverEarly n [] = Unit {0}
IsNeverEarly n (Cmd x ∷ rest) = (x.time ≤ n) × IsNeverEarly n rest
IsNeverEarly n (Beat ∷ rest) = IsNeverEarly (n + 1) rest

-- what is true of the accepted commands and the runs, whatever the clock and the delays
pub record IsTrailing (accepted : List Command) (runs : List (List Item)) : Type 0 where
  pub chained : IsChained runs
  pub complete : AllByRecursion (IsComplete accepted) runs
  pub last_ordered : last_of [] runs ≡ ordered accepted 0 (last_clock runs)
  pub never_early : AllByRecursion (IsNeverEarly zero) runs

-- the greatest delay of all plans
unfoldable pub greatest_delay : List (List ℕ) → ℕ
greatest_delay [] = 0
greatest_delay (delays ∷ plans) = max (longest_delay delays) (greatest_delay plans)

-- the plan was never changed
abbrev pub IsUnchangedPlan : {W : Type 0} → MirrorState W → Type 0
IsUnchangedPlan s = list_any is_restagger s.history ≡ false

-- what is true of the clocks, of the commands' names and times, and of the bounds of what was
-- turned away
pub record IsInBounds {W : Type 0} (s : MirrorState W) : Type 0 where
  -- each copy's clock is at most the match's length, and at most the mirror's clock
  pub within_match : AllByRecursion (λ run. beats run ≤ s.length) s.runs
  pub behind_clock : AllByRecursion (λ run. beats run ≤ s.clock) s.runs
  -- the mirror's clock is at most the length plus the greatest delay of all plans
  pub before_end : s.clock ≤ s.length + greatest_delay s.plans
  -- where the plan was never changed, each copy is its delay or more behind the mirror's clock
  pub behind_delays : IsUnchangedPlan s
      → AllZip (λ run delay. beats run ≤ s.clock - delay) s.runs (delays_of s)
  -- the accepted commands have different names, and are due within the match
  pub names : NamesDiffer s.accepted
  pub due : AllByRecursion (λ x. x.time < s.length) s.accepted
  -- what was turned away was older than the last copy
  pub bounds : AllByRecursion (λ away. away.bound ≤ last_clock s.runs) s.turned

-- a mirror's copies are staggered
pub record IsStaggered {W : Type 0} (s : MirrorState W) : Type 0 where
  pub trailing : IsTrailing s.accepted s.runs
  pub in_bounds : IsInBounds s
