-- A feeder at work stands for the machine.
use Rattle.std.specs.Prelude.{◌≡◌, ℕ, ◌+◌, ◌*◌, ◌<◌, ◌≤◌, ◌^◌, ◌⊎◌, min, List, ◌++◌, length}
use Rattle.std.specs.List.{AllByRecursion, AllZip}
use Rattle.game_trait.specs.Keys.{KeysRise}
use Rattle.link_ring.specs.declared.receive.LinkReceive.{LinkReceive}
use Rattle.link_ring.specs.declared.send.LinkSend.{LinkSend}
use Rattle.sync_model.specs.Schedule.{clock_end, longest_delay}
use Rattle.link_ring.specs.Ends.{misses_of}
use Rattle.copy_workers.specs.declared.post.Asked.{Asked}
use Rattle.copy_workers.specs.declared.feeder.Feeder.{Feeder}
use Rattle.copy_workers.specs.declared.feeder_job.FeederEnd.{FeederEnd}
use Rattle.copy_workers.specs.declared.feeder_job.FeederJob.{FeederJob}
use Rattle.copy_workers.specs.Messages.{commands_in}
use Rattle.copy_workers.specs.Feed.{Task, Hearing, Feed, ending_clock, least_mark}
use Rattle.copy_workers.specs.Feeding.{IsFed, IsBetween}
use Rattle.copy_workers.specs.Sending.{MaySend, IsSent, IsFrom}
use Rattle.copy_workers.specs.Refining.{AllHeard, AllKept}

-- what a feeder began with
pub record Start : Type 0 where
  pub job : Task
  pub sends : List LinkSend
  pub receives : List LinkReceive
  pub asked : List Asked
  pub budget : ℕ
  pub rises : KeysRise job.plan
  pub room : AllByRecursion (MaySend (length job.plan + job.length)) sends
  pub misses : AllByRecursion (λ r. misses_of r < 2 ^ 63) receives
  pub seven : length receives ≤ 7
  pub short : budget < 2 ^ 63
  pub fits : job.length + job.delay < 2 ^ 32

-- its values are those of the machine; this number of calls of this turn are spent
pub record Stands (c : Start) (f : Feeder) (asked : List Asked)
    (calls grows spent : ℕ) : Type 0 where
  pub state : Feed
  pub fed : IsFed c.job state
  pub plan : f.plan.items ≡ c.job.plan
  pub limit : f.bounds.length ≡ c.job.length
  pub delay : f.bounds.delay ≡ c.job.delay
  pub pace : f.bounds.pace ≡ c.job.pace
  pub foreign : f.bounds.foreign ≡ c.job.foreign
  pub asks : asked ≡ c.asked ++ state.asked
  pub taken : f.taken ≡ state.taken
  pub clock : f.clock ≡ state.clock
  pub marked : f.marked ≡ state.marked
  pub turns : f.turns ≡ length state.turns
  pub issued : f.issued ≡ length (commands_in state.sent)
  pub from : IsFrom f.plan.items f.issued f.marked
  pub kept : AllKept f.marks state.hearings
  pub heard : AllHeard c.receives f.receives.items state.hearings
  pub sends : AllZip (IsSent state.sent) c.sends f.sends.items
  pub calls_left : 8 * c.budget + length c.job.plan ≤ calls + 8 * f.turns + f.issued + spent
  pub grows_left : length c.job.plan + c.job.foreign ≤ grows + f.issued + f.taken
  pub few : f.taken ≤ f.bounds.foreign

-- within a turn: each link was asked so often in it
pub record InTurn (c : Start) (f : Feeder) (asked : List Asked)
    (calls grows spent tried : ℕ) : Type 0 where
  pub stands : Stands c f asked calls grows spent
  pub tries : AllByRecursion (λ h. h.tries ≡ f.turns + tried) stands.state.hearings
  pub below : f.clock < ending_clock c.job
  pub going : f.turns < c.budget

-- the tick of the clock is issued
abbrev pub IsIssued : Feeder → Type 0
IsIssued f = f.marked ≡ min f.bounds.length (f.clock + 1)

-- the clock may go on, by the marks received
abbrev pub IsFree : Feeder → List Hearing → Type 0
IsFree f hearings =
    (f.clock + 1 ≤ least_mark f.bounds.length hearings + f.bounds.pace)
    ⊎ (f.bounds.length ≤ least_mark f.bounds.length hearings)

-- there is nothing to do before a message comes: the tick of the clock is issued, and the marks hold
-- the clock
pub record IsHeld (f : Feeder) : Type 0 where
  pub issued : IsIssued f
  pub marks : (hearings : List Hearing) → length hearings ≡ length f.receives.items
      → AllKept f.marks hearings → IsFree f hearings → ⊥

-- between two turns
pub record Rests (c : Start) (f : Feeder) (asked : List Asked) (calls grows : ℕ) : Type 0 where
  pub stands : Stands c f asked calls grows 0
  pub between : IsBetween c.job stands.state

-- what the machine is given of a job
abbrev pub task_of : FeederJob → Task
task_of job =
    record {
      plan = job.plan.items;
      length = job.stagger.length;
      delay = longest_delay job.stagger.delays;
      pace = job.pace;
      foreign = job.foreign;
    }

-- what a feeder began with is its job, and what was asked before
pub record BeginsWith (c : Start) (job : FeederJob) (asked : List Asked) : Type 0 where
  pub task : c.job ≡ task_of job
  pub sends : c.sends ≡ job.sends.items
  pub receives : c.receives ≡ job.receives.items
  pub before : c.asked ≡ asked
  pub budget : c.budget ≡ job.budget

-- where a feeder ends, by the machine
pub record EndsByMachine (job : FeederJob) (end : FeederEnd)
    (before after : List Asked) : Type 0 where
  pub state : Feed
  pub fed : IsFed (task_of job) state
  pub between : IsBetween (task_of job) state
  pub asked : after ≡ before ++ state.asked
  pub plan : end.plan.items ≡ job.plan.items
  pub sends : AllZip (IsSent state.sent) job.sends.items end.sends.items
  pub receives : AllHeard job.receives.items end.receives.items state.hearings
  pub clock : end.clock ≡ state.clock
  pub marked : end.marked ≡ state.marked
  pub issued : end.issued ≡ length (commands_in state.sent)
  pub turns : end.turns ≡ length state.turns
  pub within : end.turns ≤ job.budget
  pub ends : (end.clock ≡ clock_end job.stagger) ⊎ (end.turns ≡ job.budget)

-- between two turns, and a turn begins
pub record Goes (c : Start) (f : Feeder) (asked : List Asked) (calls grows : ℕ) : Type 0 where
  pub rests : Rests c f asked calls grows
  pub below : f.clock < ending_clock c.job
  pub going : f.turns < c.budget
