-- What hearing a packet leaves of a peer's window.
use Rattle.std.proofs.Common.{◌≡◌, ℕ, max, Bool, true, false, cond, not, ◌==◌, ◌||◌, Option, Some, None, List, [], ◌∷◌, map, refl, ap, sym, ◌∙◌, arith}
use Rattle.std.proofs.lemmas.Grind.{common_steps}
use Rattle.std.proofs.lemmas.Bool.{eq-eqb}
use Rattle.peer_model.specs.Queue.{Part}
use Rattle.peer_model.specs.Peer.{put, refuses}
use Rattle.peer_window.specs.Window.{RollPeer, with_heard, rolls_part, rolls_parts, rolls_head, rolls_packet}
use Rattle.peer_window.specs.Session.{rolls_hear}
use Rattle.peer_packet.specs.Packet as wire
use Rattle.peer_calls.specs.declared.config.Config.{Config}
use Rattle.peer_calls.specs.declared.newest.Newest.{Newest}
use Rattle.peer_calls.specs.State.{State, clock_now, newest_clock, window_of}
use Rattle.peer_calls.specs.Wire.{part_from, packet_from_wire}
use Rattle.peer_calls.specs.Hearing.{newer, hears_head, hears_packet, is_packet_refused, after_hearing}

-- the newest clock is the greatest
newer-clock : (clock echo at : ℕ) (old : Option Newest) → newest_clock (newer clock echo at old) ≡ max (newest_clock old) clock
newer-clock clock echo at None = grind (arith, common_steps)
newer-clock clock echo at (Some n) = grind (arith, common_steps)

clock-of : (b : Bool) (x y : Option Newest) → newest_clock (cond b x y) ≡ cond b (newest_clock x) (newest_clock y)
clock-of true x y = refl
clock-of false x y = refl

head-heard : {W : Type 0} (p : wire.Packet) (s : State W) (j : ℕ)
    → newest_clock (put p.from (newer p.clock p.echo (clock_now s) (s.newest p.from)) s.newest j)
    ≡ put p.from (max (newest_clock (s.newest p.from)) p.clock) (λ k. newest_clock (s.newest k)) j
head-heard p s j =
    clock-of (j == p.from) (newer p.clock p.echo (clock_now s) (s.newest p.from)) (s.newest j)
    ∙ ap (λ (n : ℕ). cond (j == p.from) n (newest_clock (s.newest j))) (newer-clock p.clock p.echo (clock_now s) (s.newest p.from))

-- the head
head-window : {W : Type 0} (p : wire.Packet) (s : State W) → window_of (hears_head p s) ≡ rolls_head (packet_from_wire p) (window_of s)
head-window p s = λ i. record {
  queues = s.queues;
  known = (window_of (hears_head p s)).known;
  heard = λ j. head-heard p s j i;
  roll = s.roll;
}

-- parts change the queues and the mirror alone
parts-keep : {W : Type 0} (room : ℕ) (ps : List Part) (v : RollPeer W)
    → record (rolls_parts room ps v) { known = v.known; heard = v.heard } ≡ rolls_parts room ps v
unfolding rolls_parts
parts-keep room [] v = refl
parts-keep room (p ∷ ps) v = parts-keep room ps (with_heard p.origin (rolls_part room p (v.queues p.origin) v.roll) v)

packet-window : {W : Type 0} (c : Config) (p : wire.Packet) (s : State W)
    → window_of (hears_packet c p s) ≡ rolls_packet c.room (packet_from_wire p) (window_of s)
packet-window c p s =
    parts-keep c.room (map part_from p.parts) (window_of (hears_head p s))
    ∙ ap (rolls_parts c.room (map part_from p.parts)) (head-window p s)

window-if : {W : Type 0} (b : Bool) (x y : State W) → window_of (cond b x y) ≡ cond b (window_of x) (window_of y)
window-if true x y = refl
window-if false x y = refl

-- it is refused where it is refused there
refused-is : {W : Type 0} (p : wire.Packet) (s : State W) → p.to ≡ s.me
    → is_packet_refused p s ≡ refuses p.to (packet_from_wire p) s.queues (clock_now s)
refused-is p s to =
    ap (λ (b : Bool). not b || refuses s.me (packet_from_wire p) s.queues (clock_now s)) (eq-eqb p.to s.me to)
    ∙ ap (λ (n : ℕ). refuses n (packet_from_wire p) s.queues (clock_now s)) (sym to)

pub heard-window : {W : Type 0} (c : Config) (p : wire.Packet) (s : State W) → p.to ≡ s.me
    → window_of (after_hearing c p s) ≡ rolls_hear c.room (packet_from_wire p) (window_of s)
heard-window c p s to =
    window-if (is_packet_refused p s) s (hears_packet c p s)
    ∙ ap (λ (v : RollPeer _). cond (is_packet_refused p s) (window_of s) v) (packet-window c p s)
    ∙ ap (λ (b : Bool). cond b (window_of s) (rolls_packet c.room (packet_from_wire p) (window_of s))) (refused-is p s to)
