-- Worlds that are left to be made although they are made.
use Rattle.std.proofs.Common.{ℕ, ◌≤◌, ◌<◌, List, length}
use Rattle.game_trait.specs.declared.command.Command.{Command}
use Rattle.game_trait.specs.Game.{Rules}
use Rattle.game_trait.specs.Run.{world_of}
use Rattle.executed_list.specs.Segments.{OneList, runs_at}
use Rattle.trailing_copy.specs.Stack.{IsStack}
use Rattle.trailing_copy.proofs.Fresh.{from-later}

-- of a stack, the worlds of more copies may be left to be made, but for the last one's
pub deferred-kept :
    {W : Type 0} {rules : Rules W} {opening : W} {ticks : ℕ} {all : List Command} {spare : ℕ}
    {s : OneList} {worlds : List W} {clocks : List ℕ} {stale : ℕ}
    (n : ℕ) → stale ≤ n → n < length s.ends
    → IsStack rules opening ticks all spare s worlds clocks stale
    → IsStack rules opening ticks all spare s worlds clocks n
deferred-kept {W} {rules} {opening} {ticks} {all} {spare} {s} {worlds} {clocks} {stale} n low few h = record {
  trailing = h.trailing;
  clocks_are = h.clocks_are;
  as_many_worlds = h.as_many_worlds;
  worlds_are =
      from-later (world_of rules opening) (runs_at s.items s.ends) worlds stale n low h.worlds_are;
  few_stale = few;
  within = h.within;
  few_copies = h.few_copies;
  few_ticks = h.few_ticks;
  room = h.room;
}
