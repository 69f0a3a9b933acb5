-- Lists of events that were asked, with their answers.
use Rattle.std.specs.Prelude.{◌≡◌, ℕ, ◌<◌, ◌≤◌, Bool, true, false, List, [], ◌∷◌, ◌++◌}
use Rattle.game_trait.specs.declared.command.Command.{Command}
use Rattle.game_trait.specs.declared.event.Event.{Event}
use Rattle.game_trait.specs.declared.event.Event.TheVariants.{Tick, Arrive, Step, Restagger}
use Rattle.game_trait.specs.declared.event.Reply.{Reply}
use Rattle.game_trait.specs.Count.{times}
use Rattle.game_trait.specs.Run.{same_command}
pub use Rattle.game_trait.specs.Events.{IsOfKind, is_moved, is_arrival}
use Rattle.copy_workers.specs.declared.post.Asked.{Asked}

-- an event is a tick
abbrev pub is_tick : Event → Bool
is_tick Tick = true
is_tick (Arrive x) = false
is_tick (Step c) = false
is_tick (Restagger p) = false

-- an event is this command's arrival
abbrev pub is_arrival_of : Command → Event → Bool
is_arrival_of x Tick = false
is_arrival_of x (Arrive y) = same_command x y
is_arrival_of x (Step c) = false
is_arrival_of x (Restagger p) = false

-- one event that was asked, with its answer
abbrev pub pair_of : Event → Reply → Asked
pair_of event reply = record { event = event; reply = reply }

-- an event is a tick or an arrival
abbrev pub IsFeeding : Event → Type 0
IsFeeding Tick = Unit {0}
IsFeeding (Arrive x) = Unit {0}
IsFeeding (Step c) = ⊥
IsFeeding (Restagger p) = ⊥

-- one pair of an arrival
abbrev pub arrival : Command → Reply → Asked
arrival x reply = pair_of (Arrive x) reply

-- one pair of a tick
abbrev pub ticking : Reply → Asked
ticking reply = pair_of Tick reply

-- the clock after these pairs, counted from 0
abbrev pub moves_in : List Asked → ℕ
moves_in asked = times (λ p. is_moved p.reply) asked

-- how many ticks were asked
abbrev pub ticks_in : List Asked → ℕ
ticks_in asked = times (λ p. is_tick p.event) asked

-- how often the command's arrival was asked
abbrev pub arrivals_of : Command → List Asked → ℕ
arrivals_of x asked = times (λ p. is_arrival_of x p.event) asked

-- an arrival of the command is asked at this clock
pub record ArrivesAt (asked : List Asked) (x : Command) (clock : ℕ) : Type 0 where
  pub front : List Asked
  pub reply : Reply
  pub back : List Asked
  pub whole : asked ≡ front ++ arrival x reply ∷ back
  pub here : moves_in front ≡ clock

-- an arrival of the command is asked at this clock at the latest
pub record ArrivesBy (asked : List Asked) (x : Command) (latest : ℕ) : Type 0 where
  pub front : List Asked
  pub reply : Reply
  pub back : List Asked
  pub whole : asked ≡ front ++ arrival x reply ∷ back
  pub here : moves_in front ≤ latest

-- the pairs are arrivals of these commands, one by one
unfoldable pub AreArrivals : List Command → List Asked → Type 0
AreArrivals [] [] = Unit {0}
AreArrivals [] (p ∷ ps) = ⊥
AreArrivals (x ∷ xs) [] = ⊥
AreArrivals (x ∷ xs) (p ∷ ps) =
    (p ≡ arrival x p.reply) × (is_moved p.reply ≡ false) × AreArrivals xs ps

-- an event is a tick, or the arrival of a command that is due within the match
abbrev pub IsFeedingBelow : ℕ → Event → Type 0
IsFeedingBelow length Tick = Unit {0}
IsFeedingBelow length (Arrive x) = x.time < length
IsFeedingBelow length (Step c) = ⊥
IsFeedingBelow length (Restagger p) = ⊥

-- one more pair, of this command's arrival
pub record HasArrival (x : Command) (before after : List Asked) : Type 0 where
  pub reply : Reply
  pub asked : after ≡ before ++ arrival x reply ∷ []
  pub still : is_moved reply ≡ false

-- arrivals of these commands, one by one, at the end
pub record HasArrivals (xs : List Command) (before after : List Asked) : Type 0 where
  pub pairs : List Asked
  pub asked : after ≡ before ++ pairs
  pub arrivals : AreArrivals xs pairs
