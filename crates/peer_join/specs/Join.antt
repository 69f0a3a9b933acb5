-- A peer that joins by a snapshot of another one.
use Rattle.std.specs.Prelude.{◌≡◌, ℕ, ◌^◌, ◌≤◌, ◌<◌, Bool, nat_lt, List, [], ◌++◌, filter, length, replicate, slice_index_or}
use Rattle.std.specs.List.{AllByRecursion}
use Rattle.game_trait.specs.declared.command.Command.{Command}
use Rattle.game_trait.specs.Count.{times}
use Rattle.sync_model.specs.Lists.{last_of}
use Rattle.sync_model.specs.State.{MirrorState}
use Rattle.peer_model.specs.Queue.{Sent, Queue, have_of, trimmed}
use Rattle.peer_model.specs.Peer.{Peer, clock_of, bound_of}
use Rattle.peer_model.specs.Net.{Net}
use Rattle.peer_calls.specs.Handing.{arriving}

-- the same commands, in whatever order
abbrev pub AreSame : List Command → List Command → Type 0
AreSame xs ys = (test : Command → Bool) → times test xs ≡ times test ys

-- its mirror has plans of its own, the first in force, stands at the clock of the other's last copy, and each of its
-- runs is that copy's; it accepted what the other had, in an order of its own
abbrev pub joined_mirror : {W : Type 0} → List (List ℕ) → List Command → ℕ → MirrorState W → MirrorState W
joined_mirror plans accepted clock s = record s {
  plans = plans;
  plan = 0;
  clock = clock;
  accepted = accepted;
  runs = replicate (length (slice_index_or plans 0 [])) (last_of [] s.runs);
}

-- what a joiner accepts: what the maker accepted and its last copy ran, and then what is handed over, by rising slot
-- and number
abbrev pub accepted_by : {W : Type 0} → ℕ → Peer W → List Command
accepted_by slots m =
    filter (λ x. nat_lt x.time (bound_of m)) m.whole.accepted ++ arriving slots (λ o. trimmed (bound_of m) (m.queues o))

-- it has what the other had, of which it remembers what is due from there on, and heard nothing yet
abbrev pub joined_peer : {W : Type 0} → List (List ℕ) → List Command → Peer W → Peer W
joined_peer plans accepted m = record {
  queues = λ o. trimmed (bound_of m) (m.queues o);
  known = λ j o. 0;
  heard = λ j. 0;
  whole = joined_mirror plans accepted (bound_of m) m.whole;
}

-- more was issued
abbrev pub Extends : (ℕ → List Sent) → (ℕ → List Sent) → Type 0
Extends log more = (o : ℕ) → (rest : List Sent) × (more o ≡ log o ++ rest)

-- nobody had this slot
pub record IsFree {W : Type 0} (me : ℕ) (n : Net W) : Type 0 where
  pub none_issued : n.log me ≡ []
  pub none_counted : (o : ℕ) → have_of ((n.peers me).queues o) ≡ 0
  pub at_start : clock_of (n.peers me) ≡ 0

-- what is remembered of each slot has the widths of a session, and no command has more bytes than its terms allow
pub record AreOfSession (payload : ℕ) (queues : ℕ → Queue) : Type 0 where
  pub few : (o : ℕ) → length (queues o).commands < 2 ^ 16
  pub numbers : (o : ℕ) → have_of (queues o) < 2 ^ 32
  pub times : (o : ℕ) → AllByRecursion (λ x. x.time < 2 ^ 32) (queues o).commands
  pub short : (o : ℕ) → AllByRecursion (λ x. length x.bytes ≤ payload) (queues o).commands
