-- What joins by the bytes that a peer put.
use Rattle.std.proofs.Common.{◌≡◌, ℕ, ◌≤◌, ◌<◌, Ok, List, [], sym, subst}
use Rattle.game_trait.specs.Game.{Rules}
use Rattle.game_trait.specs.Run.{world_of}
use Rattle.sync_model.specs.Lists.{last_of}
use Rattle.sync_model.specs.Schedule.{Schedule, delays_of_each, ticks_of_first, copies_of_first}
use Rattle.peer_model.specs.Queue.{Sent, new_queue, have_of, TimesRise}
use Rattle.peer_model.specs.Peer.{Peer, IsPeer}
use Rattle.peer_model.specs.Net.{Net, with_peer}
use Rattle.peer_window.specs.Window.{IsWindow}
use Rattle.peer_window.specs.Session.{RollNet, with_roll, IsBeside}
use Rattle.peer_packet.specs.Snapshot.{Snapshot}
use Rattle.peer_calls.specs.declared.config.Config.{Config}
use Rattle.peer_calls.specs.State.{State, window_of}
use Rattle.peer_calls.specs.Handing.{handed_by, snapshot_text}
use Rattle.peer_join.specs.Join.{accepted_by, joined_peer, Extends, IsFree, AreOfSession}
use Rattle.peer_join.proofs.Beside.{rise-front, joins-beside}
use Rattle.peer_join.proofs.Fits.{handed-opens}
use Rattle.peer_join.proofs.Snapshots.{handed-snapshot}
use Rattle.peer_session.specs.Parts.{PeerParts, state_of}
use Rattle.peer_session.specs.Joining.{AreBytesOf, IsJoining}

pub joins-session :
    {W : Type 0} (rules : Rules W) (c : Config) (n : Net W) (v : RollNet W) (log : ℕ → List Sent) (m : Peer W) (s : State W)
    (me : ℕ) (plans : List Schedule) (bytes : List ℕ) (p : PeerParts W)
    → IsBeside rules c.terms.slots n v → IsFree me n → Extends log n.log → IsPeer c.terms.slots log m → IsWindow rules m (window_of s)
    → s.me < c.terms.slots → AreOfSession c.terms.payload s.queues
    → ((o : ℕ) → c.terms.slots ≤ o → have_of (s.queues o) ≡ 0) → ((o : ℕ) → have_of (s.queues o) ≡ 0 → s.queues o ≡ new_queue)
    → 0 < copies_of_first plans → 0 < ticks_of_first plans → bytes ≡ snapshot_text c s
    → ((snap : Snapshot) → AreBytesOf c bytes snap → IsJoining (world_of rules m.whole.opening (last_of [] m.whole.runs)) c me plans snap (Ok p))
    → IsBeside rules c.terms.slots (with_peer me (joined_peer (delays_of_each plans) (accepted_by c.terms.slots m) m) n) (with_roll me (window_of (state_of p)) v)
joins-session rules c n v log m s me plans bytes p beside free extends peer window there kept past none some ticks put joins =
    let slots = c.terms.slots in
    let world = world_of rules m.whole.opening (last_of [] m.whole.runs) in
    let rise : (o : ℕ) → TimesRise 0 (log o) = λ o. rise-front 0 (log o) (extends o).0 (subst (TimesRise 0) (extends o).1 (beside.session.rise o)) in
    let joined = joins (handed_by c s) (handed-snapshot rules c log m s rise peer window there kept, put) in
    let fits = handed-opens rules c log m s world me plans rise peer window past none kept.times ticks joined.0 in
    subst (λ (t : State _). IsBeside rules slots (with_peer me (joined_peer (delays_of_each plans) (accepted_by slots m) m) n) (with_roll me (window_of t) v)) (sym joined.1)
    (joins-beside rules c n v log m s me plans beside free extends peer window past none some fits)
