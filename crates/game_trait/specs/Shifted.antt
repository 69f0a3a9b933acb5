-- A game whose commands come with times that are counted from a later start.
use Rattle.std.specs.Prelude.{ℕ, ◌+◌, ◌-◌, ◌^◌, min}
use Rattle.game_trait.specs.declared.command.Command.{Command}
use Rattle.game_trait.specs.Game.{Rules}

-- a world, and the tick of the match from which the times of its commands are counted
pub record ShiftedWorld (W : Type 0) : Type 0 where
  pub world : W
  pub start : ℕ

-- a world whose commands' times are counted from the start
abbrev pub from_start : {W : Type 0} → ℕ → W → ShiftedWorld W
from_start start world = record { world = world; start = start }

-- a command with the tick added that its time is counted from; a time has 32 bits, and stays at the
-- greatest number that these have, which no time of a match comes near
abbrev pub at_own_time : ℕ → Command → Command
at_own_time start x = record x { time = min (x.time + start) (2 ^ 32 - 1) }

-- the rules of a game, told commands whose times are counted from a world's start
abbrev pub shifted : {W : Type 0} → Rules W → Rules (ShiftedWorld W)
shifted rules = record {
  apply = λ s x. record s { world = rules.apply s.world (at_own_time s.start x) };
  beat = λ s. record s { world = rules.beat s.world };
}

-- a world that is so many ticks on: the times of its commands are counted from that much later
abbrev pub passed : {W : Type 0} → ℕ → ShiftedWorld W → ShiftedWorld W
passed ticks s = record s { start = min (s.start + ticks) (2 ^ 32 - 1) }
