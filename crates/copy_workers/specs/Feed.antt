-- The feeder as a machine over lists: its state, and each thing that it does.
use Rattle.std.specs.Prelude.{ℕ, ◌+◌, ◌<◌, min, cond, List, [], ◌∷◌, ◌++◌}
use Rattle.game_trait.specs.declared.command.Command.{Command}
use Rattle.game_trait.specs.declared.event.Reply.{Reply}
use Rattle.link_ring.specs.declared.message.Message.{Message}
use Rattle.link_ring.specs.declared.message.Message.TheVariants.{Cmd, Mark}
use Rattle.copy_workers.specs.declared.post.Asked.{Asked}
use Rattle.copy_workers.specs.Messages.{tick_messages}
use Rattle.copy_workers.specs.Asking.{is_moved, arrival, ticking}

-- what a feeder is given
pub record Task : Type 0 where
  -- the mirror's own commands, the match's length, the longest delay, the pace
  pub plan : List Command
  pub length : ℕ
  pub delay : ℕ
  pub pace : ℕ
  -- how many received commands it may ask
  pub foreign : ℕ

-- one link that a feeder hears
pub record Hearing : Type 0 where
  -- how many messages it was known at the start to hold
  pub promised : ℕ
  -- the last mark, what was received, how often nothing came, how often it was asked
  pub kept : ℕ
  pub got : List Message
  pub risen : ℕ
  pub tries : ℕ
  -- how many messages it is known to hold
  pub known : ℕ

-- a feeder within a turn
pub record Feed : Type 0 where
  -- the clock, how many ticks are issued, what each link was sent
  pub clock : ℕ
  pub marked : ℕ
  pub sent : List Message
  pub hearings : List Hearing
  -- all that was asked; the same by whole turns, and in this turn
  pub asked : List Asked
  pub turns : List (List Asked)
  pub here : List Asked
  -- how many received commands were asked
  pub taken : ℕ

-- the clock at which a feeder ends
abbrev pub ending_clock : Task → ℕ
ending_clock job = job.length + job.delay

-- the least mark received; with no links the length
unfoldable pub least_mark : ℕ → List Hearing → ℕ
least_mark length [] = length
least_mark length (h ∷ rest) = min h.kept (least_mark length rest)

-- the marks hold the clock where it is
abbrev pub IsHeldByMarks : Task → Feed → Type 0
IsHeldByMarks job s =
    (least_mark job.length s.hearings + job.pace < s.clock + 1)
    × (least_mark job.length s.hearings < job.length)

-- a tick is issued
abbrev pub issued : Task → List Asked → Feed → Feed
issued job pairs s =
    record s {
      marked = s.marked + 1;
      sent = s.sent ++ tick_messages job.plan s.clock;
      asked = s.asked ++ pairs;
      here = s.here ++ pairs;
    }

-- nothing came on a link
abbrev pub missed : Hearing → ℕ → Hearing
missed h known = record h { risen = h.risen + 1; tries = h.tries + 1; known = known }

-- a mark came
abbrev pub with_mark : Hearing → ℕ → ℕ → Hearing
with_mark h n known =
    record h { kept = n; got = h.got ++ Mark n ∷ []; tries = h.tries + 1; known = known }

-- a command came
abbrev pub with_command : Hearing → Command → ℕ → Hearing
with_command h x known = record h { got = h.got ++ Cmd x ∷ []; tries = h.tries + 1; known = known }

-- one link has changed
abbrev pub heard : Feed → List Hearing → Feed
heard s hearings = record s { hearings = hearings }

-- a received command was asked, and its link has changed
abbrev pub fed : Feed → List Hearing → Command → Reply → Feed
fed s hearings x reply =
    record s {
      hearings = hearings;
      asked = s.asked ++ arrival x reply ∷ [];
      here = s.here ++ arrival x reply ∷ [];
      taken = s.taken + 1;
    }

-- a turn ends with a tick
abbrev pub ticked : Reply → Feed → Feed
ticked reply s =
    record s {
      clock = s.clock + cond (is_moved reply) 1 0;
      asked = s.asked ++ ticking reply ∷ [];
      turns = s.turns ++ (s.here ++ ticking reply ∷ []) ∷ [];
      here = [];
    }

-- a turn ends without one
abbrev pub rested : Feed → Feed
rested s = record s { turns = s.turns ++ s.here ∷ []; here = [] }

-- a feeder at its start
abbrev pub at_start : List Hearing → Feed
at_start hearings =
    record {
      clock = 0;
      marked = 0;
      sent = [];
      hearings = hearings;
      asked = [];
      turns = [];
      here = [];
      taken = 0;
    }
