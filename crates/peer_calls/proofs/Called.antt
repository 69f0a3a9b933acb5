-- Packets that a peer makes and hears are calls of the session.
use Rattle.std.proofs.Common.{◌≡◌, ℕ, ◌≤◌, Option, Some, List, [], ◌∷◌, ◌++◌, slice_get, ap, sym, ◌∙◌}
use Rattle.game_trait.specs.Game.{Rules}
use Rattle.peer_model.specs.Queue.{have_of}
use Rattle.peer_model.specs.Peer.{Packet, Span, packet_from}
use Rattle.peer_window.specs.Window.{RollPeer, roll_clock}
use Rattle.peer_window.specs.Session.{RollNet, Terms, with_roll, rolls_hear, rolls_bring, calls}
use Rattle.peer_window.specs.Session as session
use Rattle.peer_packet.specs.Packet as wire
use Rattle.peer_calls.specs.declared.config.Config.{Config}
use Rattle.peer_calls.specs.State.{State, window_of}
use Rattle.peer_calls.specs.Wire.{packet_from_wire}
use Rattle.peer_calls.specs.Sending.{packet_for}
use Rattle.peer_calls.specs.Hearing.{after_hearing}
use Rattle.peer_calls.proofs.Heard.{heard-window}
use Rattle.peer_calls.proofs.Spans.{packet-spans}

pub heard-call : {W : Type 0} (rules : Rules W) (c : Config) (terms : Terms) (n : RollNet W) (s : State W) (which : ℕ) (p : wire.Packet)
    → n.peers s.me ≡ window_of s → terms.room s.me ≡ c.room → p.to ≡ s.me
    → slice_get n.packets which ≡ Some (packet_from_wire p)
    → calls rules terms n (session.Hear which) ≡ with_roll s.me (window_of (after_hearing c p s)) n
heard-call rules c terms n s which p at room to there =
    let q = packet_from_wire p in
    ap (λ (x : Option Packet). rolls_bring terms x n) there
    ∙ ap (λ (k : ℕ). with_roll k (rolls_hear (terms.room k) q (n.peers k)) n) to
    ∙ ap (λ (r : ℕ). with_roll s.me (rolls_hear r q (n.peers s.me)) n) room
    ∙ ap (λ (v : RollPeer _). with_roll s.me (rolls_hear c.room q v) n) at
    ∙ ap (λ (v : RollPeer _). with_roll s.me v n) (sym (heard-window c p s to))

pub made-call : {W : Type 0} (rules : Rules W) (c : Config) (terms : Terms) (n : RollNet W) (s : State W) (to room : ℕ)
    → n.peers s.me ≡ window_of s → terms.slots ≡ c.terms.slots
    → ((o : ℕ) → c.terms.slots ≤ o → have_of (s.queues o) ≡ 0)
    → (spans : List Span)
    × (calls rules terms n (session.Make s.me to spans) ≡ record n { packets = n.packets ++ packet_from_wire (packet_for c to room s) ∷ [] })
made-call rules c terms n s to room at slots none =
    let made = packet-spans c to room s none in (
      made.0,
      ap (λ (v : RollPeer _). record n { packets = n.packets ++ packet_from terms.slots s.me to made.0 v.queues v.heard (roll_clock v.roll) ∷ [] }) at
          ∙ ap (λ (k : ℕ). record n { packets = n.packets ++ packet_from k s.me to made.0 s.queues (window_of s).heard (roll_clock s.roll) ∷ [] }) slots
          ∙ ap (λ (q : Packet). record n { packets = n.packets ++ q ∷ [] }) (sym made.1),
    )
