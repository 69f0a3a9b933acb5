-- What a peer makes of an own command.
use Rattle.std.specs.Prelude.{ℕ, List, [], ◌∷◌, ◌++◌, length}
use Rattle.peer_model.specs.declared.own.OwnAnswer.{OwnAnswer}
use Rattle.peer_model.specs.declared.own.OwnAnswer.TheVariants.{TooLong, Behind, End, Far, Full, Taken}
use Rattle.peer_model.specs.Queue.{Sent}
use Rattle.peer_model.specs.Own.{said_to_own}
use Rattle.peer_model.specs.Peer.{put}
use Rattle.peer_window.specs.Window.{RollPeer}
use Rattle.peer_window.specs.Session.{RollNet, own_now, rolls_own}
use Rattle.peer_calls.specs.declared.config.Config.{Config}
use Rattle.peer_calls.specs.State.{State, window_of, with_window}

-- what it answers to a command of these bytes, so many ticks ahead
abbrev pub said_to_peers_own : {W : Type 0} → Config → ℕ → List ℕ → State W → OwnAnswer
said_to_peers_own c ahead bytes s =
    said_to_own (own_now c.room s.me s.start (window_of s)) c.terms.payload (length bytes) ahead

-- a command that was answered so is issued where it is taken; else nothing changes
abbrev pub issued_by : {W : Type 0} → OwnAnswer → List ℕ → State W → State W
issued_by TooLong bytes s = s
issued_by (Behind start) bytes s = s
issued_by End bytes s = s
issued_by (Far end) bytes s = s
issued_by Full bytes s = s
issued_by (Taken time number) bytes s =
    with_window (rolls_own s.me (record { time = time; bytes = bytes }) (window_of s)) s

abbrev pub after_own : {W : Type 0} → Config → ℕ → List ℕ → State W → State W
after_own c ahead bytes s = issued_by (said_to_peers_own c ahead bytes s) bytes s

-- the session in which a peer issued a command and is now this
abbrev pub issued_in : {W : Type 0} → ℕ → Sent → RollPeer W → RollNet W → RollNet W
issued_in me x v n = record n {
  log = put me (n.log me ++ x ∷ []) n.log;
  peers = put me v n.peers;
}
