-- What contracts see of a peer: its parts, and the state that they are.
use Rattle.std.specs.Prelude.{◌≡◌, ℕ, ◌+◌, ◌-◌, ◌*◌, ◌^◌, ◌≤◌, ◌<◌, if◌then◌else◌}
use Rattle.rolling_mirror.specs.Rolling.{RollState, last_tick, passed_commands, forgets, is_held}
use Rattle.peer_packet.specs.Packet.{AreTerms}
use Rattle.peer_calls.specs.declared.config.Config.{Config}
use Rattle.peer_calls.specs.State.{State}
use Rattle.peer_slots.specs.Links.{LinkLists, links_of}
use Rattle.peer_slots.specs.Queues.{QueueLists, queues_of}
use Rattle.peer_sending.specs.Sending.{AreShort}

pub record PeerParts (W : Type 0) : Type 0 where
  -- what it was made with
  pub config : Config
  pub me : ℕ
  pub start : ℕ
  pub queues : QueueLists
  pub links : LinkLists
  pub roll : RollState W
  -- how many items of each run its mirror forgot
  pub forgotten : ℕ

-- all that it knows
abbrev pub state_of : {W : Type 0} → PeerParts W → State W
state_of p = record {
  me = p.me;
  start = p.start;
  queues = (queues_of p.queues).queues;
  known = (links_of p.links).known;
  newest = (links_of p.links).newest;
  cursor = (links_of p.links).cursor;
  marks = (links_of p.links).marks;
  roll = p.roll;
}

-- what is always true: its slot is one of the session's, there is a queue and a link for each, no command that is
-- remembered has more bytes than the session allows, and no tick forgets more items than it and all commands of a mirror
-- are
pub record ArePeers {W : Type 0} (p : PeerParts W) : Type 0 where
  pub terms : AreTerms p.config.terms
  pub there : p.me < p.config.terms.slots
  pub queues : (queues_of p.queues).slots ≡ p.config.terms.slots
  pub links : (links_of p.links).slots ≡ p.config.terms.slots
  pub room : (queues_of p.queues).room ≡ p.config.room
  pub short : AreShort p.config.terms.payload (queues_of p.queues)
  pub few : p.forgotten ≤ p.roll.base * 2 ^ 32

-- how many items of each run a turn forgets: the ticks that the last copy passed, and their commands
abbrev pub forgotten_by : {W : Type 0} → RollState W → ℕ
forgotten_by r =
    if is_held r then 0
    else if forgets r then (last_tick r - r.base) + passed_commands r.left
    else 0
