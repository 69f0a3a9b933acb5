-- What the caller of a race knows after the joins, as lists.
use Rattle.std.specs.Prelude.{◌≡◌, ℕ, zero, suc, ◌+◌, ◌-◌, ◌<◌, ◌≤◌, ◌≢◌, ◌==◌, ◌⊎◌, min, List, [], ◌∷◌, ◌++◌, map, filter, length, slice_index_or}
use Rattle.std.specs.List.{AllByRecursion}
use Rattle.game_trait.specs.declared.command.Command.{Command}
use Rattle.game_trait.specs.Count.{times}
use Rattle.game_trait.specs.Keys.{in_key_order, NamesDiffer}
use Rattle.game_trait.specs.Run.{same_command}
use Rattle.link_ring.specs.declared.message.Message.{Message}
use Rattle.sync_model.specs.State.{MirrorState, opening_state}
use Rattle.sync_model.specs.Change.{after}
use Rattle.copy_workers.specs.declared.post.Asked.{Asked}
use Rattle.copy_workers.specs.Messages.{messages, commands_in, last_mark, IsOrderly}
use Rattle.copy_workers.specs.Asking.{IsFeeding, moves_in, arrivals_of, ArrivesAt}
use Rattle.tss_base.specs.Totals.{total}
use Rattle.copy_workers.specs.Fed.{ArriveInTime}
use Rattle.race_hall.specs.Entries.{Entry, pairs_of, own, events_asked, AreAnswersOf, IsStepping}
use Rattle.sync_model.specs.Schedule.{DelaysRise, longest_delay}

-- what of a match matters to a race: its commands, how many mirrors there are, its length, its
-- plans, and how far a clock may go past what the other mirrors' feeders promised
pub record Course : Type 0 where
  pub commands : List Command
  pub mirrors : ℕ
  pub length : ℕ
  pub plans : List (List ℕ)
  pub pace : ℕ

-- the delays of the plan that is in force from the start, and during the whole race
abbrev pub first_plan : Course → List ℕ
first_plan c = slice_index_or c.plans 0 []

-- a mirror of the match before any event, which has no room for a change of the plan
abbrev pub race_opening : {W : Type 0} → Course → W → ℕ → MirrorState W
race_opening c opening spare = opening_state opening c.length c.plans spare 0

-- what is always true of a match that may be raced: the names differ, each command is due within
-- the match and of a mirror that is there, the delays rise, and the pace is at most the longest
-- delay
pub record IsCourse (c : Course) : Type 0 where
  pub names : NamesDiffer c.commands
  pub within : AllByRecursion (λ x. x.time < c.length) c.commands
  pub from : AllByRecursion (λ x. x.from < c.mirrors) c.commands
  pub some_copy : 0 < length (first_plan c)
  pub rise : DelaysRise (first_plan c)
  pub pace : c.pace ≤ longest_delay (first_plan c)

-- a mirror's own commands, in key order
abbrev pub plan_of : Course → ℕ → List Command
plan_of c m = in_key_order (filter (λ x. x.from == m) c.commands)

-- n numbers, from this one on
unfoldable pub count_from : ℕ → ℕ → List ℕ
count_from i zero = []
count_from i (suc n) = i ∷ count_from (i + 1) n

-- the other mirrors, rising
abbrev pub others : ℕ → ℕ → List ℕ
others mirrors m = count_from 0 m ++ count_from (m + 1) (mirrors - (m + 1))

-- how many commands the other mirrors have
abbrev pub foreign_of : Course → ℕ → ℕ
foreign_of c m = total (λ k. length (plan_of c k)) (others c.mirrors m)

-- what a feeder promises where what it received was orderly and had few commands
pub record IsFairlyFed (pace length : ℕ) (issued : List Command) (gots : List (List Message))
    (asked : List Asked) : Type 0 where
  pub in_time : AllByRecursion (ArriveInTime asked pace) gots
  pub counts : (x : Command)
      → arrivals_of x asked
      ≡ times (same_command x) issued + total (λ got. times (same_command x) (commands_in got)) gots
  pub bounds : AllByRecursion
      (λ got. (moves_in asked ≤ last_mark got + pace) ⊎ (last_mark got ≡ length)) gots

-- what a feeder did: its plan, how many received commands it may ask, how many ticks it issued,
-- what it received, what it asked
pub record IsFedBy (c : Course) (plan : List Command) (foreign marked : ℕ)
    (gots : List (List Message)) (asked : List Asked) : Type 0 where
  pub least : min c.length (moves_in asked) ≤ marked
  pub most : marked ≤ c.length
  pub arrive : AllByRecursion (λ x. ArrivesAt asked x x.time) (commands_in (messages plan marked))
  pub feeding : AllByRecursion (λ p. IsFeeding p.event) asked
  pub fair : AllByRecursion (IsOrderly c.length) gots
      → total (λ got. length (commands_in got)) gots ≤ foreign
      → IsFairlyFed c.pace c.length (commands_in (messages plan marked)) gots asked

-- one mirror of a race after the joins: the seat of its feeder, the lock's history, the state that
-- the lock gave back; of each other mirror k how many ticks it issued, and what of its link was
-- received and is left
pub record Raced {W : Type 0} (c : Course) (opening : W) (spare m : ℕ) (marked : ℕ → ℕ)
    (got left : ℕ → List Message)
    (seat : ℕ) (history : List Entry) (s : MirrorState W) : Type 0 where
  pub sound : AreAnswersOf (race_opening c opening spare) (pairs_of history)
  pub state : s ≡ after (race_opening c opening spare) (events_asked (pairs_of history))
  pub workers : (i : ℕ) → i ≢ seat → AllByRecursion (λ p. IsStepping p.event) (own i history)
  pub fed : IsFedBy c (plan_of c m) (foreign_of c m) (marked m) (map got (others c.mirrors m))
      (own seat history)
  pub below : (k : ℕ) → k < c.mirrors → marked k ≤ c.length
  pub links : (k : ℕ) → k < c.mirrors → k ≢ m → messages (plan_of c k) (marked k) ≡ got k ++ left k
