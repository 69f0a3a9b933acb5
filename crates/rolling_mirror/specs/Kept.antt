-- What is always true of a mirror of a session without an end.
use Rattle.std.specs.Prelude.{ℕ, ◌≡◌, ◌+◌, ◌^◌, ◌≤◌, ◌<◌, List, length, map}
use Rattle.std.specs.List.{AllByRecursion}
use Rattle.game_trait.specs.declared.command.Item.{Item}
use Rattle.game_trait.specs.declared.command.Item.TheVariants.{Cmd, Beat}
use Rattle.game_trait.specs.Run.{beats}
use Rattle.game_trait.specs.CommandList.{name_of}
use Rattle.game_trait.specs.NameTree.{NamesOfTree}
use Rattle.sync_model.specs.Schedule.{Schedule}
use Rattle.sync_model.specs.State.{MirrorState}
use Rattle.rolling_mirror.specs.Rolling.{RollState}

-- the plans of a mirror: one is in force, and each has the window's length and a delay for each copy
pub record ArePlansOf {W : Type 0} (s : MirrorState W) (plans : List Schedule) : Type 0 where
  pub ticks_each : AllByRecursion (λ plan. plan.length ≡ s.length) plans
  pub copies_each : AllByRecursion (λ plan. length plan.delays ≡ length s.runs) plans
  pub in_force : s.plan < length plans

-- what is always true of a mirror with these plans and these names: there are copies, none is ahead of
-- the clock, which stands within the window and the session; the remembered commands are due at ticks
-- of the session; the worlds count the times of commands from the
-- base; and the names are theirs, with room for as many more as the copies have
pub record IsRolling {W : Type 0} (r : RollState W) (plans : List Schedule) (names : NamesOfTree)
    (start : ℕ) : Type 0 where
  pub plans_are : ArePlansOf r.left plans
  pub some_copy : 0 < length r.left.runs
  pub within_window : r.left.clock < r.left.length
  pub behind_clock : AllByRecursion (λ run. beats run ≤ r.left.clock) r.left.runs
  pub within_session : r.base + r.left.clock < 2 ^ 32
  pub due_in_session : AllByRecursion (λ x. r.base + x.time < 2 ^ 32) r.left.accepted
  pub told_from : start ≡ r.base
  pub names_are : names.items ≡ map name_of r.left.accepted
  pub names_room : length names.items + r.spare ≤ names.room
  pub first_room : length names.items + r.spare ≤ names.first_room

-- a command's time, told from so many ticks before, is a tick of the session
unfoldable pub IsToldIn : ℕ → Item → Type 0
IsToldIn base (Cmd x) = x.time + base < 2 ^ 32
IsToldIn base Beat = Unit {0}
