-- What mirrors of one session make alike, and where that leaves them.
use Rattle.std.specs.Prelude.{◌≡◌, ℕ, List, [], ◌∷◌, map}
use Rattle.game_trait.specs.declared.command.Command.{Command}
use Rattle.game_trait.specs.declared.event.Event.TheVariants.{Tick, Arrive, Step, Restagger}
use Rattle.game_trait.specs.declared.event.Arrived.TheVariants.{Taken, Repeat, Late}
use Rattle.game_trait.specs.declared.event.Reply.{Reply}
use Rattle.game_trait.specs.declared.event.Reply.TheVariants.{Tick as ToTick, Arrive as ToArrive, Step as ToStep, Restaggered}
use Rattle.game_trait.specs.Game.{Rules}
use Rattle.game_trait.specs.Run.{world_of}
use Rattle.sync_model.specs.Lists.{last_of}
use Rattle.sync_model.specs.State.{MirrorState}
use Rattle.sync_model.specs.Change.{next, said, after}
use Rattle.sync_model.specs.Turns.{turn}

-- what mirrors of one session make alike: a turn, the arrival of a command, another plan
pub data Move : Type 0 where
  Turn : Move
  Comes : (x : Command) → Move
  Replan : (plan : ℕ) → Move

abbrev pub moved : {W : Type 0} → MirrorState W → Move → MirrorState W
moved s Turn = turn s
moved s (Comes x) = next s (Arrive x)
moved s (Replan p) = next s (Restagger p)

-- a mirror after moves, one after another
unfoldable pub after_moves : {W : Type 0} → MirrorState W → List Move → MirrorState W
after_moves s [] = s
after_moves s (m ∷ ms) = after_moves (moved s m) ms

-- a mirror whose copies made these steps, one after another
abbrev pub stepped : {W : Type 0} → List ℕ → MirrorState W → MirrorState W
stepped copies s = after s (map (λ copy. Step copy) copies)

-- an answer, without how many copies were repaired
abbrev pub uncounted : Reply → Reply
uncounted (ToArrive (Taken repaired)) = ToArrive (Taken 0)
uncounted (ToArrive Repeat) = ToArrive Repeat
uncounted (ToArrive (Late bound)) = ToArrive (Late bound)
uncounted (ToTick ticked) = ToTick ticked
uncounted (ToStep stepped) = ToStep stepped
uncounted Restaggered = Restaggered

-- what is answered to a move: to a turn's tick, or to an arrival, whose repairs aren't counted
abbrev pub said_to_move : {W : Type 0} → MirrorState W → Move → Reply
said_to_move s Turn = said s Tick
said_to_move s (Comes x) = uncounted (said s (Arrive x))
said_to_move s (Replan p) = said s (Restagger p)

unfoldable pub said_to_moves : {W : Type 0} → MirrorState W → List Move → List Reply
said_to_moves s [] = []
said_to_moves s (m ∷ ms) = said_to_move s m ∷ said_to_moves (moved s m) ms

-- two mirrors have the same clock and plan, have accepted and turned away the same commands in the same
-- order, and their last copies have the same run, and so the same clock and world
pub record AreAtOne {W : Type 0} (rules : Rules W) (s t : MirrorState W) : Type 0 where
  pub clock : s.clock ≡ t.clock
  pub plan : s.plan ≡ t.plan
  pub accepted : s.accepted ≡ t.accepted
  pub turned : s.turned ≡ t.turned
  pub last_run : last_of [] s.runs ≡ last_of [] t.runs
  pub last_world : world_of rules s.opening (last_of [] s.runs)
      ≡ world_of rules t.opening (last_of [] t.runs)
