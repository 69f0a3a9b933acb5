-- An own command of a peer is a call of the session.
use Rattle.std.proofs.Common.{◌≡◌, ℕ, ◌<◌, List, length, ap, sym, ◌∙◌}
use Rattle.game_trait.specs.Game.{Rules}
use Rattle.peer_model.specs.declared.own.OwnAnswer.{OwnAnswer}
use Rattle.peer_model.specs.declared.own.OwnAnswer.TheVariants.{Taken}
use Rattle.peer_model.specs.Queue.{Sent, have_of}
use Rattle.peer_model.specs.Own.{said_to_own}
use Rattle.peer_window.specs.Window.{RollPeer}
use Rattle.peer_window.specs.Session.{RollNet, Terms, own_now, rolls_own, rolls_issues, calls}
use Rattle.peer_window.specs.Session as session
use Rattle.peer_calls.specs.declared.config.Config.{Config}
use Rattle.peer_calls.specs.State.{State, window_of}
use Rattle.peer_calls.specs.Issuing.{said_to_peers_own, issued_by, after_own, issued_in}

pub own-issued : {W : Type 0} (rules : Rules W)
    → ((terms : Terms) (me start payload ahead time number : ℕ) (bytes : List ℕ) (n : RollNet W) → me < terms.slots
    → said_to_own (own_now (terms.room me) me start (n.peers me)) payload (length bytes) ahead ≡ Taken time number
    → (calls rules terms n (session.Own me ahead bytes) ≡ rolls_issues me (record { time = time; bytes = bytes }) n) × (number ≡ have_of ((n.peers me).queues me)))
    → (c : Config) (terms : Terms) (n : RollNet W) (s : State W) (ahead time number : ℕ) (bytes : List ℕ)
    → n.peers s.me ≡ window_of s → terms.room s.me ≡ c.room → s.me < terms.slots
    → said_to_peers_own c ahead bytes s ≡ Taken time number
    → calls rules terms n (session.Own s.me ahead bytes) ≡ issued_in s.me (record { time = time; bytes = bytes }) (window_of (after_own c ahead bytes s)) n
own-issued rules call c terms n s ahead time number bytes at room there is =
    let x : Sent = record { time = time; bytes = bytes } in
    let now : said_to_own (own_now (terms.room s.me) s.me s.start (n.peers s.me)) c.terms.payload (length bytes) ahead ≡ Taken time number =
    ap (λ (r : ℕ). said_to_own (own_now r s.me s.start (n.peers s.me)) c.terms.payload (length bytes) ahead) room
    ∙ ap (λ (v : RollPeer _). said_to_own (own_now c.room s.me s.start v) c.terms.payload (length bytes) ahead) at
    ∙ is in
    (call terms s.me s.start c.terms.payload ahead time number bytes n there now).0
    ∙ ap (λ (v : RollPeer _). issued_in s.me x (rolls_own s.me x v) n) at
    ∙ ap (λ (a : OwnAnswer). issued_in s.me x (window_of (issued_by a bytes s)) n) (sym is)
