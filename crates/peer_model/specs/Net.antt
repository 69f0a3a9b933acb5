-- A session of peers over a net: all that was issued, the peers, and every packet that was ever made, of which any
-- may be heard, at any time, in any order, any number of times.
use Rattle.std.specs.Prelude.{◌≡◌, ℕ, ◌≤◌, ◌<◌, nat_lt, if◌then◌else◌, Option, Some, None, List, [], ◌∷◌, ◌++◌, length, slice_get, drop}
use Rattle.std.specs.List.{AllByRecursion}
use Rattle.game_trait.specs.declared.event.Event.{Event}
use Rattle.game_trait.specs.Events.{is_arrival}
use Rattle.sync_model.specs.State.{MirrorState}
use Rattle.peer_model.specs.Queue.{Sent, have_of, TimesRise, IsPiece}
use Rattle.peer_model.specs.Peer.{Peer, Packet, Span, put, new_peer, clock_of, bound_of, own_time, own, moved, forgot, packet_of, hears, IsSound, IsPeer}

pub record Net (W : Type 0) : Type 0 where
  -- what `own` of each slot's peer took
  pub log : ℕ → List Sent
  pub peers : ℕ → Peer W
  pub packets : List Packet

-- the slots of a session, and how many ticks behind its last copy each peer remembers
pub record Session : Type 0 where
  pub slots : ℕ
  pub keep : ℕ → ℕ

abbrev pub new_net : {W : Type 0} → (ℕ → MirrorState W) → Net W
new_net wholes = record { log = λ o. []; peers = λ i. new_peer (wholes i); packets = [] }

-- a step of one peer: it issues a command; its mirror makes an event that is no arrival; its queues forget; it
-- makes a packet; or a packet is heard by the one that it is for, each of its parts stopped after so many commands
pub data NetStep : Type 0 where
  Own : (me ahead : ℕ) → (bytes : List ℕ) → NetStep
  Move : (me : ℕ) → (e : Event) → NetStep
  Forget : (me : ℕ) → NetStep
  Make : (me to : ℕ) → (spans : List Span) → NetStep
  Hear : (which : ℕ) → (most : ℕ → ℕ) → NetStep

-- the net with a peer changed
abbrev pub with_peer : {W : Type 0} → ℕ → Peer W → Net W → Net W
with_peer i m n = record n { peers = put i m n.peers }

abbrev pub issues : {W : Type 0} → ℕ → Sent → Net W → Net W
issues me x n = record n {
  log = put me (n.log me ++ x ∷ []) n.log;
  peers = put me (own me x (n.peers me)) n.peers;
}

abbrev pub brings : {W : Type 0} → (ℕ → ℕ) → Option Packet → Net W → Net W
brings most None n = n
brings most (Some p) n = with_peer p.to (hears n.log most p.to p (n.peers p.to)) n

abbrev pub happens : {W : Type 0} → Session → Net W → NetStep → Net W
happens c n (Own me ahead bytes) =
    if nat_lt me c.slots
    then issues me (record { time = own_time me ahead (n.peers me); bytes = bytes }) n
    else n
happens c n (Move me e) = if is_arrival e then n else with_peer me (moved e (n.peers me)) n
happens c n (Forget me) = with_peer me (forgot (c.keep me) (n.peers me)) n
happens c n (Make me to spans) = record n { packets = n.packets ++ packet_of c.slots me to spans (n.peers me) ∷ [] }
happens c n (Hear which most) = brings most (slice_get n.packets which) n

unfoldable pub run : {W : Type 0} → Session → Net W → List NetStep → Net W
run c n [] = n
run c n (e ∷ es) = run c (happens c n e) es

-- ---- what is always true

-- a packet tells what was true when it was made, and goes on being true
pub record IsMade {W : Type 0} (slots : ℕ) (n : Net W) (p : Packet) : Type 0 where
  pub have : (o : ℕ) → p.have o ≤ have_of ((n.peers p.sender).queues o)
  pub clock : p.clock ≤ clock_of (n.peers p.sender)
  pub echo : p.echo ≤ clock_of (n.peers p.to)
  pub there : AllByRecursion (λ part. part.origin < slots) p.parts
  pub pieces : AllByRecursion (λ part. IsPiece (n.log part.origin) part) p.parts

-- a session of peers
pub record IsSession {W : Type 0} (slots : ℕ) (n : Net W) : Type 0 where
  -- times of a slot never fall
  pub rise : (o : ℕ) → TimesRise 0 (n.log o)
  -- each peer has of each slot a front, counted once
  pub peers : (i : ℕ) → IsPeer slots n.log (n.peers i)
  -- and of its own all
  pub own : (i : ℕ) → have_of ((n.peers i).queues i) ≡ length (n.log i)
  -- what is known of another is no more than it has
  pub known : (i j o : ℕ) → (n.peers i).known j o ≤ have_of ((n.peers j).queues o)
  pub heard : (i j : ℕ) → (n.peers i).heard j ≤ clock_of (n.peers j)
  pub packets : AllByRecursion (IsMade slots n) n.packets

-- a peer's last copy stands at a tick, before which it has of each slot all that is issued and due, and it turned
-- none away
pub record HasAllBefore {W : Type 0} (t : ℕ) (log : ℕ → List Sent) (m : Peer W) : Type 0 where
  pub stands : bound_of m ≡ t
  pub all : (o : ℕ) → AllByRecursion (λ x. t ≤ x.time) (drop (have_of (m.queues o)) (log o))
  pub none_late : (o : ℕ) → (m.queues o).late ≡ 0

-- a mirror before anything arrived
pub record IsUnused {W : Type 0} (s : MirrorState W) : Type 0 where
  pub accepted : s.accepted ≡ []
  pub turned : s.turned ≡ []
  pub sound : IsSound s
