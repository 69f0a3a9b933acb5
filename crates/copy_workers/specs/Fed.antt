-- What a feeder promises, over lists: what was asked, sent and received.
use Rattle.std.specs.Prelude.{◌≡◌, ℕ, ◌+◌, ◌-◌, ◌<◌, ◌≤◌, ◌⊎◌, min, List, [], ◌∷◌, ◌++◌, length}
use Rattle.std.specs.List.{AllByRecursion, AllZip}
use Rattle.game_trait.specs.declared.command.Command.{Command}
use Rattle.game_trait.specs.Count.{times}
use Rattle.game_trait.specs.Run.{same_command}
use Rattle.sync_model.specs.Schedule.{clock_end}
use Rattle.link_ring.specs.declared.receive.LinkReceive.{LinkReceive}
use Rattle.link_ring.specs.declared.message.Message.{Message}
use Rattle.link_ring.specs.declared.message.Message.TheVariants.{Cmd}
use Rattle.link_ring.specs.Ends.{received_of, waiting_of, misses_of, SameReceive}
use Rattle.copy_workers.specs.declared.post.Asked.{Asked}
use Rattle.copy_workers.specs.declared.feeder_job.FeederEnd.{FeederEnd}
use Rattle.copy_workers.specs.declared.feeder_job.FeederJob.{FeederJob}
use Rattle.copy_workers.specs.Messages.{messages, commands_in, last_mark, IsOrderly}
use Rattle.copy_workers.specs.Asking.{IsFeeding, moves_in, ticks_in, arrivals_of, ArrivesAt, ArrivesBy}
use Rattle.tss_base.specs.Totals.{total}
use Rattle.copy_workers.specs.Feeding.{joined, GoesOn}
use Rattle.copy_workers.specs.Sending.{IsSent}

-- each command received arrives at a clock that the mark before it allows
abbrev pub ArriveInTime : List Asked → ℕ → List Message → Type 0
ArriveInTime asked pace got = (front back : List Message) (x : Command)
    → got ≡ front ++ Cmd x ∷ back → ArrivesBy asked x (last_mark front + pace)

-- one link's end, as it was handed in and as it is given back, with what was received meanwhile in
-- this number of turns
pub record Receives (turns : ℕ) (first now : LinkReceive) (got : List Message) : Type 0 where
  pub same : SameReceive first now
  pub received : received_of now ≡ received_of first ++ got
  pub rises : misses_of first ≤ misses_of now
  pub each : length got + (misses_of now - misses_of first) ≡ turns
  pub least : min (length (waiting_of first)) turns ≤ length got

-- each link's end, with what it received
unfoldable pub AllReceive : ℕ → List LinkReceive → List LinkReceive → List (List Message) → Type 0
AllReceive turns [] [] [] = Unit {0}
AllReceive turns (a ∷ xs) (b ∷ ys) (got ∷ gots) =
    Receives turns a b got × AllReceive turns xs ys gots
AllReceive turns xs ys gots = ⊥

-- how often nothing came, over all links
unfoldable pub misses_between : List LinkReceive → List LinkReceive → ℕ
misses_between [] ys = 0
misses_between (x ∷ xs) [] = 0
misses_between (x ∷ xs) (y ∷ ys) = (misses_of y - misses_of x) + misses_between xs ys

-- the least of the last marks; with no links the length
unfoldable pub least_last : ℕ → List (List Message) → ℕ
least_last length [] = length
least_last length (got ∷ gots) = min (last_mark got) (least_last length gots)

-- what is promised of a feeder besides, where what each link received is orderly and has few
-- commands
pub record FairlyFed (job : FeederJob) (end : FeederEnd) (asked : List Asked)
    (gots : List (List Message)) : Type 0 where
  -- each command that was received arrives in time
  pub in_time : AllByRecursion (ArriveInTime asked job.pace) gots
  -- each command arrives as often as it was issued and received
  pub counts :
      (x : Command) → arrivals_of x asked
      ≡ times (same_command x) (commands_in (messages job.plan.items end.marked))
      + total (λ got. times (same_command x) (commands_in got)) gots
  -- each link holds the clock: to the pace past its last mark, unless that is the length
  pub bounds : AllByRecursion
      (λ got. (end.clock ≤ last_mark got + job.pace) ⊎ (last_mark got ≡ job.stagger.length)) gots
  -- each turn has a tick, a command that came, or a link on which nothing came
  pub few : end.turns
      ≤ ticks_in asked
      + (total (λ got. length (commands_in got)) gots
      + misses_between job.receives.items end.receives.items)

-- what a feeder does: the job, what it gives back, what was asked before the call and after it
pub record FeederEnds (job : FeederJob) (end : FeederEnd) (before after : List Asked) : Type 0 where
  -- what was asked, the same turn by turn, and what each link received
  pub asked : List Asked
  pub turns : List (List Asked)
  pub gots : List (List Message)
  pub asks : after ≡ before ++ asked
  -- the plan and the links come back; each link was asked once a turn, and gave what it was known
  -- to hold
  pub plan : end.plan.items ≡ job.plan.items
  pub receives : AllReceive end.turns job.receives.items end.receives.items gots
  -- every link was sent the same: the plan up to the mark, which is the clock or the tick after it
  pub sent : AllZip (IsSent (messages job.plan.items end.marked)) job.sends.items end.sends.items
  pub issued : end.issued ≡ length (commands_in (messages job.plan.items end.marked))
  pub least : min job.stagger.length end.clock ≤ end.marked
  pub most : end.marked ≤ min job.stagger.length (end.clock + 1)
  -- each command that was issued arrives at its time
  pub arrive : AllByRecursion (λ x. ArrivesAt asked x x.time)
      (commands_in (messages job.plan.items end.marked))
  -- all else that is asked is a tick, at most one a turn, and the clock is how often it went on
  pub pieces : asked ≡ joined turns
  pub count : end.turns ≡ length turns
  pub feeding : AllByRecursion (λ p. IsFeeding p.event) asked
  pub single : AllByRecursion (λ turn. ticks_in turn ≤ 1) turns
  pub clock : end.clock ≡ moves_in asked
  -- with no link every turn has a tick
  pub alone : job.receives.items ≡ [] → ticks_in asked ≡ end.turns
  -- where the last turn had none, and the clock isn't at its end, the marks hold the clock
  pub held :
      (front : List (List Asked)) (turn : List Asked) → turns ≡ front ++ turn ∷ []
      → ticks_in turn ≡ 0 → end.clock < clock_end job.stagger
      → (least_last job.stagger.length gots + job.pace < end.clock + 1)
      × (least_last job.stagger.length gots < job.stagger.length)
  -- it ends exactly where the clock is at its end or the budget is spent
  pub within : end.turns ≤ job.budget
  pub going : GoesOn (clock_end job.stagger) 0 turns
  pub ends : (end.clock ≡ clock_end job.stagger) ⊎ (end.turns ≡ job.budget)
  -- and the rest, where the other mirrors are fair
  pub fair : AllByRecursion (IsOrderly job.stagger.length) gots
      → total (λ got. length (commands_in got)) gots ≤ job.foreign → FairlyFed job end asked gots
