-- A session with a joiner by a snapshot stands beside one whose peers remember all.
use Rattle.std.proofs.Common.{◌≡◌, ℕ, ◌*◌, ◌≤◌, ◌<◌, true, false, cond, ◌==◌, List, [], ◌∷◌, ◌++◌, subst, arith}
use Rattle.game_trait.specs.Game.{Rules}
use Rattle.game_trait.specs.Run.{world_of}
use Rattle.sync_model.specs.Lists.{last_of}
use Rattle.sync_model.specs.Schedule.{Schedule, delays_of_each, copies_of_first}
use Rattle.rolling_mirror.specs.Snapshot.{IsOpenable}
use Rattle.peer_model.specs.Queue.{Sent, new_queue, have_of, TimesRise}
use Rattle.peer_model.specs.Peer.{Peer, IsPeer}
use Rattle.peer_model.specs.Net.{Net, with_peer}
use Rattle.peer_model.proofs.Peers.{grown-peer}
use Rattle.peer_window.specs.Window.{IsWindow}
use Rattle.peer_window.specs.Session.{RollNet, with_roll, IsBeside}
use Rattle.peer_calls.specs.declared.config.Config.{Config}
use Rattle.peer_calls.specs.State.{State, window_of}
use Rattle.peer_calls.specs.Handing.{handed_by, opened_from, joined_state}
use Rattle.peer_join.specs.Join.{accepted_by, joined_peer, Extends, IsFree}
use Rattle.peer_join.proofs.Joins.{joined-session}
use Rattle.peer_join.proofs.Opens.{first-copies}
use Rattle.peer_join.proofs.Same.{accepted-same}
use Rattle.peer_join.proofs.Handed.{joins-window}

pub rise-front : (t : ℕ) (xs ys : List Sent) → TimesRise t (xs ++ ys) → TimesRise t xs
unfolding TimesRise
rise-front t [] ys h = tt
rise-front t (x ∷ xs) ys h = (h.0, rise-front x.time xs ys h.1)

pub joins-beside :
    {W : Type 0} (rules : Rules W) (c : Config) (n : Net W) (v : RollNet W) (log : ℕ → List Sent) (m : Peer W) (s : State W) (me : ℕ) (plans : List Schedule)
    → IsBeside rules c.terms.slots n v → IsFree me n → Extends log n.log → IsPeer c.terms.slots log m → IsWindow rules m (window_of s)
    → ((o : ℕ) → c.terms.slots ≤ o → have_of (s.queues o) ≡ 0) → ((o : ℕ) → have_of (s.queues o) ≡ 0 → s.queues o ≡ new_queue)
    → 0 < copies_of_first plans
    → let world = world_of rules m.whole.opening (last_of [] m.whole.runs) in
    IsOpenable (opened_from world c (handed_by c s)) plans (c.terms.slots * c.room)
    → IsBeside rules c.terms.slots (with_peer me (joined_peer (delays_of_each plans) (accepted_by c.terms.slots m) m) n)
    (with_roll me (window_of (joined_state world c me plans (handed_by c s))) v)
joins-beside rules c n v log m s me plans beside free extends peer window past none some fits =
    let slots = c.terms.slots in
    let world = world_of rules m.whole.opening (last_of [] m.whole.runs) in
    let joined = joined_peer (delays_of_each plans) (accepted_by slots m) m in
    let opened = window_of (joined_state world c me plans (handed_by c s)) in
    let rise = λ (o : ℕ). rise-front 0 (log o) (extends o).0 (subst (TimesRise 0) (extends o).1 (beside.session.rise o)) in
    let first = first-copies plans in
    record {
      session = joined-session slots me n (delays_of_each plans) (accepted_by slots m) m (omega arith) (accepted-same slots log m rise peer) beside.session
          (grown-peer slots log n.log m extends peer) free;
      log = beside.log;
      packets = beside.packets;
      peers = λ i. elim (i == me) as (λ b. IsWindow rules (cond b joined (n.peers i)) (cond b opened (v.peers i))) [
        | true ↦ joins-window rules c log m s plans rise peer window past none some me fits
        | false ↦ beside.peers i
      ];
    }
