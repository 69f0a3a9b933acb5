-- What contracts see of the copies of a mirror, and how they are kept.
use Rattle.std.specs.Prelude.{◌≡◌, ℕ, ◌+◌, ◌-◌, ◌<◌, ◌≤◌, nat_lt, if◌then◌else◌, List, [], map, drop, length}
use Rattle.std.specs.Prelude.{Option, Some, None, slice_index_or, slice_set}
use Rattle.std.specs.List.{AllByRecursion}
use Rattle.game_trait.specs.declared.limits.TheConstants.{LONGEST_MATCH, MOST_COPIES}
use Rattle.game_trait.specs.declared.command.Command.{Command}
use Rattle.game_trait.specs.declared.command.Item.{Item}
use Rattle.game_trait.specs.Game.{Rules}
use Rattle.game_trait.specs.Run.{beats, world_of}
use Rattle.game_trait.specs.Ordered.{ordered}
use Rattle.sync_model.specs.Lists.{last_of}
use Rattle.sync_model.specs.State.{last_clock}
use Rattle.sync_model.specs.Staggered.{IsTrailing}
use Rattle.game_trait.specs.Later.{left_commands}
use Rattle.game_trait.specs.Shifted.{ShiftedWorld, shifted, passed}
use Rattle.sync_model.specs.Forgetting.{left_run}
use Rattle.executed_list.specs.Segments.{OneList, runs_at, end_of}

-- the opening world, the match's length in ticks, the accepted commands in order of acceptance, the
-- runs of the copies from copy 0 on, for how many more commands there is room, and how many copies,
-- from copy 0 on, have worlds that are still to be made from the copy behind them
pub record LazyCopies (W : Type 0) : Type 0 where
  pub opening : W
  pub ticks : ℕ
  pub accepted : List Command
  pub runs : List (List Item)
  pub spare : ℕ
  pub stale : ℕ

-- copies that forget the run of the last one: its world is the opening, and of the commands and of the
-- other runs there is left what comes after it, its times told from the last copy's clock on; there is
-- room for as many commands more as were forgotten
abbrev pub forgotten_copies :
    {W : Type 0} → Rules W → LazyCopies (ShiftedWorld W) → LazyCopies (ShiftedWorld W)
forgotten_copies rules s = record s {
  opening = passed (last_clock s.runs) (world_of (shifted rules) s.opening (last_of [] s.runs));
  accepted = left_commands (last_clock s.runs) s.accepted;
  runs = map (left_run (last_clock s.runs) (length (last_of [] s.runs))) s.runs;
  spare = s.spare + (length s.accepted - length (left_commands (last_clock s.runs) s.accepted));
}

-- from copy n on, each world is the world of its run
abbrev pub AreWorlds : {W : Type 0} → Rules W → W → OneList → ℕ → List W → Type 0
AreWorlds rules opening s n worlds =
    drop n worlds ≡ map (world_of rules opening) (drop n (runs_at s.items s.ends))

-- a world put in its copy's place, unless that is one of the first so many, which are still to be made
abbrev pub put_unless_stale : {W : Type 0} → ℕ → ℕ → W → List W → List W
put_unless_stale stale c w worlds = if nat_lt c stale then worlds else slice_set worlds c w

-- a world after a tick: the one that is given, or where none is, the world that executed the items
abbrev pub world_after : {W : Type 0} → Rules W → Option W → W → List Item → W
world_after rules (Some given) world tick = given
world_after rules None world tick = world_of rules world tick

-- how the fields belong together: the runs are chained, complete, in order at the last copy and
-- never early; each clock is that of its run; there is a world for each copy, which is the world of
-- its run but where it is still to be made, which the last copy's never is; and there is room for
-- every tick and command that is still to come
pub record IsStack {W : Type 0} (rules : Rules W) (opening : W) (ticks : ℕ) (all : List Command)
    (spare : ℕ) (s : OneList) (worlds : List W) (clocks : List ℕ) (stale : ℕ) :
    Type 0 where
  pub trailing : IsTrailing all (runs_at s.items s.ends)
  pub clocks_are : clocks ≡ map beats (runs_at s.items s.ends)
  pub as_many_worlds : length worlds ≡ length s.ends
  pub worlds_are : AreWorlds rules opening s stale worlds
  pub few_stale : stale < length s.ends
  pub within : AllByRecursion (λ k. k ≤ ticks) clocks
  pub few_copies : length s.ends ≤ MOST_COPIES
  pub few_ticks : ticks ≤ LONGEST_MATCH
  pub room : s.spare + length s.items ≡ (ticks + length all) + spare

-- what stands ahead of copy n's run is the ordered part from its clock up to copy 0's
pub record IsSettled (all : List Command) (s : OneList) (clocks : List ℕ) (n : ℕ) : Type 0 where
  pub some_settled : n < length s.ends
  pub in_order : drop (end_of s.ends n) s.items
      ≡ ordered all (slice_index_or clocks n 0) (slice_index_or clocks 0 0)
