-- Commands, items, events and answers whose times are told from an earlier start.
use Rattle.std.specs.Prelude.{ℕ, ◌+◌, ◌-◌, nat_le, List, map, filter}
use Rattle.game_trait.specs.declared.command.Command.{Command}
use Rattle.game_trait.specs.declared.command.Item.{Item}
use Rattle.game_trait.specs.declared.command.Item.TheVariants.{Cmd, Beat}
use Rattle.game_trait.specs.declared.event.Event.{Event}
use Rattle.game_trait.specs.declared.event.Event.TheVariants.{Tick, Arrive, Step, Restagger}
use Rattle.game_trait.specs.declared.event.Reply.{Reply}
use Rattle.game_trait.specs.declared.event.Reply.TheVariants.{Tick as ToTick, Arrive as ToArrive, Step as ToStep, Restaggered}
use Rattle.game_trait.specs.declared.event.Arrived.TheVariants.{Taken, Repeat, Late}
use Rattle.game_trait.specs.Game.{Rules}
use Rattle.game_trait.specs.Run.{world_of}

-- a command n ticks later, and one n ticks earlier
abbrev pub later : ℕ → Command → Command
later n x = record x { time = x.time + n }

abbrev pub earlier : ℕ → Command → Command
earlier n x = record x { time = x.time - n }

-- the commands that are due from a tick on, their times told from there
abbrev pub left_commands : ℕ → List Command → List Command
left_commands t commands = map (earlier t) (filter (λ x. nat_le t x.time) commands)

-- an item n ticks later, and one n ticks earlier
unfoldable pub later_item : ℕ → Item → Item
later_item n (Cmd x) = Cmd (later n x)
later_item n Beat = Beat

unfoldable pub earlier_item : ℕ → Item → Item
earlier_item n (Cmd x) = Cmd (earlier n x)
earlier_item n Beat = Beat

-- an event whose command is due n ticks later
unfoldable pub later_event : ℕ → Event → Event
later_event n (Arrive x) = Arrive (later n x)
later_event n Tick = Tick
later_event n (Step c) = Step c
later_event n (Restagger p) = Restagger p

-- an answer whose clock is n ticks later
unfoldable pub later_reply : ℕ → Reply → Reply
later_reply n (ToArrive (Late bound)) = ToArrive (Late (bound + n))
later_reply n (ToArrive Repeat) = ToArrive Repeat
later_reply n (ToArrive (Taken repaired)) = ToArrive (Taken repaired)
later_reply n (ToTick ticked) = ToTick ticked
later_reply n (ToStep stepped) = ToStep stepped
later_reply n Restaggered = Restaggered

-- the world after a run whose times are told from so many ticks on
abbrev pub world_from : {W : Type 0} → Rules W → ℕ → W → List Item → W
world_from rules n opening run = world_of rules opening (map (later_item n) run)
