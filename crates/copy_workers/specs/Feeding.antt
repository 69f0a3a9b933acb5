-- What a feeder keeps at every moment, part by part.
use Rattle.std.specs.Prelude.{◌≡◌, ℕ, ◌+◌, ◌<◌, ◌≤◌, ◌⊎◌, min, List, [], ◌∷◌, ◌++◌, length}
use Rattle.std.specs.List.{AllByRecursion}
use Rattle.game_trait.specs.declared.command.Command.{Command}
use Rattle.game_trait.specs.Count.{times}
use Rattle.game_trait.specs.Run.{same_command}
use Rattle.link_ring.specs.declared.message.Message.{Message}
use Rattle.link_ring.specs.declared.message.Message.TheVariants.{Cmd, Mark}
use Rattle.copy_workers.specs.declared.post.Asked.{Asked}
use Rattle.copy_workers.specs.Messages.{messages, commands_in, last_mark, IsOrderly}
use Rattle.copy_workers.specs.Asking.{IsFeeding, moves_in, ticks_in, arrivals_of, ArrivesAt, ArrivesBy}
use Rattle.tss_base.specs.Totals.{total}
use Rattle.copy_workers.specs.Feed.{Task, Hearing, Feed, ending_clock, IsHeldByMarks}

-- what was sent, and how far
pub record Sends (job : Task) (s : Feed) : Type 0 where
  pub sent : s.sent ≡ messages job.plan s.marked
  pub least : min job.length s.clock ≤ s.marked
  pub most : s.marked ≤ min job.length (s.clock + 1)

-- each command that was issued arrives at its time
pub record Issues (s : Feed) : Type 0 where
  pub arrive : AllByRecursion (λ x. ArrivesAt s.asked x x.time) (commands_in s.sent)

-- lists one after the other
unfoldable pub joined : {X : Type 0} → List (List X) → List X
joined [] = []
joined (x ∷ xs) = x ++ joined xs

-- before each turn the clock was below the last
unfoldable pub GoesOn : ℕ → ℕ → List (List Asked) → Type 0
GoesOn last clock [] = Unit {0}
GoesOn last clock (turn ∷ rest) = (clock < last) × GoesOn last (clock + moves_in turn) rest

-- of any links: ticks and arrivals alone, a tick a turn, the clock, and that no turn began too late
pub record Turns (job : Task) (s : Feed) : Type 0 where
  pub pieces : s.asked ≡ joined s.turns ++ s.here
  pub feeding : AllByRecursion (λ p. IsFeeding p.event) s.asked
  pub single : AllByRecursion (λ turn. ticks_in turn ≤ 1) s.turns
  pub none_here : ticks_in s.here ≡ 0
  pub clock : s.clock ≡ moves_in s.asked
  pub unmoved : moves_in s.here ≡ 0
  pub moved : s.clock ≤ ticks_in s.asked
  pub within : s.clock ≤ ending_clock job
  pub going : GoesOn (ending_clock job) 0 s.turns
  -- with no link every turn asks a tick
  pub alone : s.hearings ≡ [] → ticks_in s.asked ≡ length s.turns

-- of one link: its last mark, how often it was asked, and that it gives what it is known to hold
pub record Hears (h : Hearing) : Type 0 where
  pub kept : h.kept ≡ last_mark h.got
  pub each : length h.got + h.risen ≡ h.tries
  pub known : h.promised ≤ length h.got + h.known
  pub least : min h.promised h.tries ≤ length h.got

-- all that needs no orderly lists
pub record Feeds (job : Task) (s : Feed) : Type 0 where
  pub sends : Sends job s
  pub issues : Issues s
  pub turns : Turns job s
  pub hears : AllByRecursion Hears s.hearings
  pub taken : s.taken ≤ total (λ h. length (commands_in h.got)) s.hearings

-- what each link received is orderly, and there are few commands in all
pub record IsFair (job : Task) (hearings : List Hearing) : Type 0 where
  pub orderly : AllByRecursion (λ h. IsOrderly job.length h.got) hearings
  pub few : total (λ h. length (commands_in h.got)) hearings ≤ job.foreign

-- after mark m: each received command arrives no later than the pace allows by the mark before it
unfoldable pub InTime : List Asked → ℕ → ℕ → List Message → Type 0
InTime asked pace m [] = Unit {0}
InTime asked pace m (Cmd x ∷ rest) = ArrivesBy asked x (m + pace) × InTime asked pace m rest
InTime asked pace m (Mark n ∷ rest) = InTime asked pace n rest

-- the last mark holds the clock, or is the length
abbrev pub IsBound : Task → ℕ → Hearing → Type 0
IsBound job clock h = (clock ≤ h.kept + job.pace) ⊎ (h.kept ≡ job.length)

-- what needs orderly lists
pub record Keeps (job : Task) (s : Feed) : Type 0 where
  -- each received command arrives in time
  pub in_time : AllByRecursion (λ h. InTime s.asked job.pace 0 h.got) s.hearings
  -- each command arrives as often as it was issued and received
  pub counts : (x : Command)
      → arrivals_of x s.asked
      ≡ times (same_command x) (commands_in s.sent)
      + total (λ h. times (same_command x) (commands_in h.got)) s.hearings
  -- each link holds the clock
  pub bounds : AllByRecursion (IsBound job s.clock) s.hearings
  -- each turn has a tick, a command that came, or a link on which nothing came
  pub few : length s.turns
      ≤ ticks_in s.asked + total (λ h. length (commands_in h.got) + h.risen) s.hearings

-- all of it, within a turn
pub record IsFed (job : Task) (s : Feed) : Type 0 where
  pub feeds : Feeds job s
  pub keeps : IsFair job s.hearings → Keeps job s

-- between turns: each link was asked once a turn, and a turn without a tick was held
pub record IsBetween (job : Task) (s : Feed) : Type 0 where
  pub here : s.here ≡ []
  pub tries : AllByRecursion (λ h. h.tries ≡ length s.turns) s.hearings
  pub held : (front : List (List Asked)) (turn : List Asked) → s.turns ≡ front ++ turn ∷ []
      → ticks_in turn ≡ 0 → s.clock < ending_clock job → IsHeldByMarks job s
