-- A session of peers whose mirrors forget.
use Rattle.std.specs.Prelude.{◌≡◌, ℕ, ◌+◌, ◌-◌, Bool, max, not, nat_lt, ◌==◌, ◌&&◌, ◌||◌, if◌then◌else◌, Option, Some, None, List, [], ◌∷◌, ◌++◌, length, slice_get}
use Rattle.game_trait.specs.declared.event.Event.{Event}
use Rattle.game_trait.specs.declared.event.Event.TheVariants.{Tick, Step, Restagger}
use Rattle.game_trait.specs.Game.{Rules}
use Rattle.sync_model.specs.State.{MirrorState, opening_state}
use Rattle.rolling_mirror.specs.Rolling.{RollState, last_tick, window_end, said_to_arrival, arrived, left_after, is_held, ticked}
use Rattle.peer_model.specs.declared.own.OwnNow.{OwnNow}
use Rattle.peer_model.specs.Queue.{Sent, new_queue, have_of, last_time, with_own, trimmed}
use Rattle.peer_model.specs.Peer.{Packet, Span, put, packet_from, refuses}
use Rattle.peer_model.specs.Net.{Net, Session, NetStep, IsSession}
use Rattle.peer_model.specs.Net as net
use Rattle.peer_window.specs.Window.{RollPeer, roll_clock, next_command, stops_of, rolls_head, rolls_packet, IsWindow}

-- what `own` of each slot took, the peers, and every packet that was made
pub record RollNet (W : Type 0) : Type 0 where
  pub log : ℕ → List Sent
  pub peers : ℕ → RollPeer W
  pub packets : List Packet

-- the slots of a session, and of each peer how many ticks behind its last copy it remembers, and how many commands
-- of a slot
pub record Terms : Type 0 where
  pub slots : ℕ
  pub keep : ℕ → ℕ
  pub room : ℕ → ℕ

-- calls of a peer: those of a turn are a tick, steps of each copy, and forgetting
pub data Call : Type 0 where
  Own : (me ahead : ℕ) → (bytes : List ℕ) → Call
  TickOf : (me : ℕ) → Call
  StepOf : (me copy : ℕ) → Call
  RestaggerOf : (me plan : ℕ) → Call
  Forget : (me : ℕ) → Call
  Make : (me to : ℕ) → (spans : List Span) → Call
  Hear : (which : ℕ) → Call

-- when an own command is due
abbrev pub roll_time : {W : Type 0} → ℕ → ℕ → RollPeer W → ℕ
roll_time me ahead v =
    max (roll_clock v.roll + ahead) (last_time (v.queues me).gone (v.queues me).commands)

-- it is taken: the window reaches it, and there is room in the queue and at the mirror
abbrev pub takes_own : {W : Type 0} → ℕ → ℕ → ℕ → RollPeer W → Bool
takes_own room me ahead v =
    nat_lt (roll_time me ahead v) (window_end v.roll)
    && (not (length (v.queues me).commands == room) && nat_lt 0 v.roll.spare)

-- what decides of an own command, of a peer whose commands are taken from a clock on
abbrev pub own_now : {W : Type 0} → ℕ → ℕ → ℕ → RollPeer W → OwnNow
own_now room me start v = record {
  clock = roll_clock v.roll;
  start = start;
  last = last_time (v.queues me).gone (v.queues me).commands;
  have = have_of (v.queues me);
  end = window_end v.roll;
  is_full = (length (v.queues me).commands == room) || (v.roll.spare == 0);
}

abbrev pub rolls_own : {W : Type 0} → ℕ → Sent → RollPeer W → RollPeer W
rolls_own me x v = record v {
  queues = put me (with_own x (v.queues me)) v.queues;
  roll = arrived v.roll (next_command me x (v.queues me)) (said_to_arrival v.roll (next_command me x (v.queues me)));
}

abbrev pub with_roll : {W : Type 0} → ℕ → RollPeer W → RollNet W → RollNet W
with_roll i v n = record n { peers = put i v n.peers }

abbrev pub rolls_issues : {W : Type 0} → ℕ → Sent → RollNet W → RollNet W
rolls_issues me x n = record n {
  log = put me (n.log me ++ x ∷ []) n.log;
  peers = put me (rolls_own me x (n.peers me)) n.peers;
}

-- queues forget what the last copy passed so many ticks ago
abbrev pub rolls_forget : {W : Type 0} → ℕ → RollPeer W → RollPeer W
rolls_forget keep v = record v { queues = λ o. trimmed (last_tick v.roll - keep) (v.queues o) }

abbrev pub rolls_event : {W : Type 0} → Event → RollPeer W → RollPeer W
rolls_event e v = record v { roll = left_after v.roll e }

abbrev pub rolls_hear : {W : Type 0} → ℕ → Packet → RollPeer W → RollPeer W
rolls_hear room p v =
    if refuses p.to p v.queues (roll_clock v.roll) then v else rolls_packet room p v

abbrev pub rolls_bring : {W : Type 0} → Terms → Option Packet → RollNet W → RollNet W
rolls_bring c None n = n
rolls_bring c (Some p) n = with_roll p.to (rolls_hear (c.room p.to) p (n.peers p.to)) n

abbrev pub calls : {W : Type 0} → Rules W → Terms → RollNet W → Call → RollNet W
calls rules c n (Own me ahead bytes) =
    if nat_lt me c.slots && takes_own (c.room me) me ahead (n.peers me)
    then rolls_issues me (record { time = roll_time me ahead (n.peers me); bytes = bytes }) n
    else n
calls rules c n (TickOf me) =
    with_roll me (record (n.peers me) { roll = ticked rules (n.peers me).roll }) n
calls rules c n (StepOf me copy) =
    if nat_lt copy (length (n.peers me).roll.left.runs)
    then with_roll me (rolls_event (Step copy) (n.peers me)) n
    else n
calls rules c n (RestaggerOf me plan) = with_roll me (rolls_event (Restagger plan) (n.peers me)) n
calls rules c n (Forget me) = with_roll me (rolls_forget (c.keep me) (n.peers me)) n
calls rules c n (Make me to spans) =
    record n { packets = n.packets ++ packet_from c.slots me to spans (n.peers me).queues (n.peers me).heard (roll_clock (n.peers me).roll) ∷ [] }
calls rules c n (Hear which) = rolls_bring c (slice_get n.packets which) n

unfoldable pub all_calls : {W : Type 0} → Rules W → Terms → RollNet W → List Call → RollNet W
all_calls rules c n [] = n
all_calls rules c n (e ∷ es) = all_calls rules c (calls rules c n e) es

-- the steps that a call is for peers that remember all: a packet's parts are stopped where they are here
abbrev pub bring_steps : {W : Type 0} → Terms → ℕ → Option Packet → RollNet W → List NetStep
bring_steps c which None n = []
bring_steps c which (Some p) n =
    net.Hear which (stops_of (c.room p.to) p.parts (rolls_head p (n.peers p.to))) ∷ []

abbrev pub steps_of : {W : Type 0} → Terms → RollNet W → Call → List NetStep
steps_of c n (Own me ahead bytes) =
    if nat_lt me c.slots && takes_own (c.room me) me ahead (n.peers me)
    then net.Own me ahead bytes ∷ []
    else []
steps_of c n (TickOf me) = if is_held (n.peers me).roll then [] else net.Move me Tick ∷ []
steps_of c n (StepOf me copy) =
    if nat_lt copy (length (n.peers me).roll.left.runs) then net.Move me (Step copy) ∷ [] else []
steps_of c n (RestaggerOf me plan) = net.Move me (Restagger plan) ∷ []
steps_of c n (Forget me) = net.Forget me ∷ []
steps_of c n (Make me to spans) = net.Make me to spans ∷ []
steps_of c n (Hear which) = bring_steps c which (slice_get n.packets which) n

unfoldable pub all_steps : {W : Type 0} → Rules W → Terms → RollNet W → List Call → List NetStep
all_steps rules c n [] = []
all_steps rules c n (e ∷ es) = steps_of c n e ++ all_steps rules c (calls rules c n e) es

-- the session of which the peers of another remember all
abbrev pub session_of : Terms → Session
session_of c = record { slots = c.slots; keep = c.keep }

-- beside a session of peers with windows stands one of peers that remember all: what was issued and every packet
-- are the same, and each peer is the window of the other
pub record IsBeside {W : Type 0} (rules : Rules W) (slots : ℕ) (n : Net W) (v : RollNet W) : Type 0 where
  pub session : IsSession slots n
  pub log : (o : ℕ) → v.log o ≡ n.log o
  pub packets : v.packets ≡ n.packets
  pub peers : (i : ℕ) → IsWindow rules (n.peers i) (v.peers i)

-- ---- the start

-- how a peer begins: its plans, its window, for how many commands its mirror has room, and how many ticks it keeps
pub record Opening : Type 0 where
  pub plans : List (List ℕ)
  pub window : ℕ
  pub spare : ℕ
  pub keep : ℕ

-- its mirror, and the one that remembers all, of a match of n ticks
abbrev pub roll_of : {W : Type 0} → W → Opening → RollState W
roll_of opening o = record {
  base = 0;
  left = opening_state opening o.window o.plans 0 0;
  spare = o.spare;
  keep = o.keep;
}

abbrev pub whole_of : {W : Type 0} → W → ℕ → Opening → MirrorState W
whole_of opening n o = opening_state opening n o.plans 0 0

abbrev pub new_roll_net : {W : Type 0} → (ℕ → RollState W) → RollNet W
new_roll_net rolls = record {
  log = λ o. [];
  peers = λ i. record { queues = λ o. new_queue; known = λ j o. 0; heard = λ j. 0; roll = rolls i };
  packets = [];
}
