-- What is still to be delivered, as the caller holds it.
use Rattle.std.specs.Prelude.{◌≡◌, ℕ, List, map, drop, length}
use Rattle.game_trait.specs.declared.command.Command.{Command}
use Rattle.link_ring.specs.declared.receive.LinkReceive.{LinkReceive}
use Rattle.link_ring.specs.Ends.{waiting_of}
use Rattle.copy_workers.specs.declared.feeder_job.FeederEnd.{FeederEnd}
use Rattle.copy_workers.specs.Messages.{messages, commands_in}
use Rattle.copy_workers.specs.Feeding.{joined}
use Rattle.race_hall.specs.Race.{Course, plan_of}
use Rattle.race_hall.specs.declared.finish.Sender.{Sender}

-- what is kept of a feeder's end beside its links: its plan, and how much of it was issued
abbrev pub sender_of_end : FeederEnd → Sender
sender_of_end e = record { plan = e.plan; issued = e.issued }

-- the commands that are known to wait in these links
abbrev pub left_in : List LinkReceive → List Command
left_in links = joined (map (λ r. commands_in (waiting_of r)) links)

-- the commands that these senders never issued
abbrev pub unissued_in : List Sender → List Command
unissued_in senders = joined (map (λ one. drop one.issued one.plan.items) senders)

-- of mirror k: its plan, and how many of its commands its feeder issued
pub record IsSenderOf (c : Course) (marked : ℕ → ℕ) (k : ℕ) (one : Sender) : Type 0 where
  pub plan : one.plan.items ≡ plan_of c k
  pub issued : one.issued ≡ length (commands_in (messages (plan_of c k) (marked k)))
