-- In the course of giving the feeders their plans and links.
use Rattle.std.specs.Prelude.{◌≡◌, ℕ, ◌+◌, List, ◌++◌, length, map, Vec}
use Rattle.std.specs.declared.alloc.Global.{Global}
use Rattle.std.specs.List.{AllZip}
use Rattle.link_ring.specs.declared.send.LinkSend.{LinkSend}
use Rattle.link_ring.specs.declared.receive.LinkReceive.{LinkReceive}
use Rattle.copy_workers.specs.declared.feeder_job.FeederJob.{FeederJob}
use Rattle.race_hall.specs.Race.{Course, first_plan, plan_of, count_from}

-- a job that has mirror k's plan, whatever its links
pub record HasPlan (c : Course) (budget k : ℕ) (job : FeederJob) : Type 0 where
  pub mirror : job.mirror ≡ k
  pub copies : job.copies ≡ length (first_plan c)
  pub budget_is : job.budget ≡ budget
  pub plan : job.plan.items ≡ plan_of c k
  pub length_is : job.stagger.length ≡ c.length
  pub pace : job.pace ≡ c.pace
  pub foreign : job.foreign + length (plan_of c k) ≡ length c.commands

-- the first n jobs have these links, and the others are left
pub record Lines (sends sends_left : List (Vec LinkSend Global))
    (rows rows_left : List (Vec LinkReceive Global)) (jobs : List FeederJob) : Type 0 where
  pub sends_are : map (λ job. job.sends) jobs ++ sends_left ≡ sends
  pub rows_are : map (λ job. job.receives) jobs ++ rows_left ≡ rows

-- the jobs of the first n mirrors, which have links of these
pub record AreLinedUp (c : Course) (budget : ℕ) (sends : List (Vec LinkSend Global))
    (rows : List (Vec LinkReceive Global)) (n : ℕ) (jobs : List FeederJob) : Type 0 where
  pub each : AllZip (HasPlan c budget) (count_from 0 n) jobs
  pub sends_left : List (Vec LinkSend Global)
  pub rows_left : List (Vec LinkReceive Global)
  pub lines : Lines sends sends_left rows rows_left jobs
