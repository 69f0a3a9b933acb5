-- Whatever the net does, a session stays one.
use Rattle.std.proofs.Common.{◌≡◌, ℕ, zero, suc, ◌≤◌, ◌<◌, max, Bool, true, false, cond, nat_lt, Option, Some, None, List, [], ◌∷◌, ◌++◌, filter, length, take, inl, inr, refl, ap, sym, ◌∙◌, subst, append-nil, arith}
use Rattle.std.specs.Prelude.{slice_get}
use Rattle.std.specs.List.{AllByRecursion, list_any}
use Rattle.std.proofs.Math.Seq.{take_all}
use Rattle.std.proofs.Math.ListN.{length-append}
use Rattle.std.proofs.lemmas.Bool.{and_parts, ltb-true, leb-true, or_from, cases_eq}
use Rattle.std.proofs.lemmas.Bool.Decides.{nat_tests}
use Rattle.game_trait.specs.declared.event.Event.{Event}
use Rattle.game_trait.specs.Events.{is_arrival}
use Rattle.game_trait.proofs.Lists.{all-push, all-weaker, all-to_map}
use Rattle.peer_model.specs.Queue.{Sent, Part, have_of, last_time, part_of, with_own, conflicts, TimesRise, IsPiece}
use Rattle.peer_model.specs.Peer.{Peer, Packet, Span, clock_of, own_time, own, moved, forgot, may_span, packet_of, heard_head, hears_parts, is_ahead, is_refused, hears, IsPeer}
use Rattle.peer_model.specs.Net.{Net, Session, NetStep, Own, Move, Forget, Make, Hear, with_peer, issues, brings, happens, run, IsMade, IsSession}
use Rattle.peer_model.proofs.Pieces.{rise-push, part-grow, front-last, part-piece, no-conflict}
use Rattle.peer_model.proofs.Counting.{put-same, put-other}
use Rattle.peer_model.proofs.Peers.{put-all, last-behind, Goes, Extends, parts-go, parts-known, parts-heard, head-peer, moved-goes, forgot-goes, grown-peer, issued-extends, own-goes}

-- ---- lists

pub all-get : {X : Type 0} (P : X → Type 0) (xs : List X) (k : ℕ) (x : X) → AllByRecursion P xs → slice_get xs k ≡ Some x → P x
all-get P [] k x h e = absurd cc
all-get P (y ∷ ys) zero x h e = (let same : y ≡ x = cc in subst P same h.0)
all-get P (y ∷ ys) (suc k) x h e = all-get P ys k x h.1 e

all-passed : {X : Type 0} (p : X → Bool) (P : X → Type 0) → ((x : X) → p x ≡ true → P x) → (xs : List X) → AllByRecursion P (filter p xs)
all-passed p P so [] = tt
all-passed p P so (x ∷ xs) =
    elim (p x) as (λ v. p x ≡ v → AllByRecursion P (cond v (x ∷ filter p xs) (filter p xs)))
    [ true ↦ λ e. (so x e, all-passed p P so xs) | false ↦ λ e. all-passed p P so xs ]
    refl

all-taken : {X : Type 0} (k : ℕ) (xs : List X) → k ≡ length xs → take k xs ≡ xs
all-taken k xs all = take_all k xs (omega arith)

-- ---- what goes on being true

-- a net that went on
record Grows {W : Type 0} (n m : Net W) : Type 0 where
  pub log : Extends n.log m.log
  pub have : (i o : ℕ) → have_of ((n.peers i).queues o) ≤ have_of ((m.peers i).queues o)
  pub clock : (i : ℕ) → clock_of (n.peers i) ≤ clock_of (m.peers i)

made-grows : {W : Type 0} (slots : ℕ) (n m : Net W) → Grows n m → (p : Packet) → IsMade slots n p → IsMade slots m p
made-grows slots n m g p h =
    record {
      have = λ o. (let a = h.have o in let b = g.have p.sender o in omega arith);
      clock = (let a = h.clock in let b = g.clock p.sender in omega arith);
      echo = (let a = h.echo in let b = g.clock p.to in omega arith);
      there = h.there;
      pieces = all-weaker (λ part. IsPiece (n.log part.origin) part) (λ part. IsPiece (m.log part.origin) part) p.parts
          (λ part k. subst (λ (l : List Sent). IsPiece l part) (sym (g.log part.origin).1) (part-grow (n.log part.origin) (g.log part.origin).0 part k)) h.pieces;
    }

-- one peer goes on, and tells no more of others than they have
pub session-peer :
    {W : Type 0} (slots i : ℕ) (m : Peer W) (n : Net W) → IsSession slots n → Goes slots n.log (n.peers i) m
    → ((j o : ℕ) → m.known j o ≤ have_of ((n.peers j).queues o)) → ((j : ℕ) → m.heard j ≤ clock_of (n.peers j))
    → IsSession slots (with_peer i m n)
session-peer {W} slots i m n s goes known heard =
    let next = with_peer i m n in
    let have : (j o : ℕ) → have_of ((n.peers j).queues o) ≤ have_of ((next.peers j).queues o) =
    put-all (λ j p. (o : ℕ) → have_of ((n.peers j).queues o) ≤ have_of (p.queues o)) i m n.peers goes.have (λ j o. omega arith) in
    let clock : (j : ℕ) → clock_of (n.peers j) ≤ clock_of (next.peers j) =
    put-all (λ j p. clock_of (n.peers j) ≤ clock_of p) i m n.peers goes.clock (λ j. omega arith) in
    let grows : Grows n next = record { log = λ o. ([], sym (append-nil (n.log o))); have = have; clock = clock } in
    record {
      rise = s.rise;
      peers = put-all (λ j p. IsPeer slots n.log p) i m n.peers goes.peer s.peers;
      own = put-all (λ j p. have_of (p.queues j) ≡ length (n.log j)) i m n.peers
          (let up = goes.have i in let within = (goes.peer.fronts i).within in let all = s.own i in omega arith) s.own;
      known = put-all (λ j p. (k o : ℕ) → p.known k o ≤ have_of ((next.peers k).queues o)) i m n.peers
          (λ k o. (let a = known k o in let b = have k o in omega arith)) (λ j k o. (let a = s.known j k o in let b = have k o in omega arith));
      heard = put-all (λ j p. (k : ℕ) → p.heard k ≤ clock_of (next.peers k)) i m n.peers
          (λ k. (let a = heard k in let b = clock k in omega arith)) (λ j k. (let a = s.heard j k in let b = clock k in omega arith));
      packets = all-weaker (IsMade slots n) (IsMade slots next) n.packets (made-grows slots n next grows) s.packets;
    }

-- ---- each step

move-session : {W : Type 0} (slots me : ℕ) (e : Event) (n : Net W) → is_arrival e ≡ false → IsSession slots n → IsSession slots (with_peer me (moved e (n.peers me)) n)
move-session slots me e n not s =
    session-peer slots me (moved e (n.peers me)) n s (moved-goes slots n.log e (n.peers me) not (s.peers me)) (s.known me) (s.heard me)

forget-session : {W : Type 0} (slots me keep : ℕ) (n : Net W) → IsSession slots n → IsSession slots (with_peer me (forgot keep (n.peers me)) n)
forget-session slots me keep n s =
    session-peer slots me (forgot keep (n.peers me)) n s (forgot-goes slots n.log keep (n.peers me) (s.peers me)) (s.known me) (s.heard me)

-- the own slot has all that it issued
own-all : {W : Type 0} (slots me : ℕ) (x : Sent) (n : Net W) → IsSession slots n → have_of (((issues me x n).peers me).queues me) ≡ length ((issues me x n).log me)
own-all {W} slots me x n s =
    let p = n.peers me in
    let left : have_of (((issues me x n).peers me).queues me) ≡ have_of ((own me x p).queues me) = ap (λ (q : Peer W). have_of (q.queues me)) (put-same me (own me x p) n.peers) in
    let at : have_of ((own me x p).queues me) ≡ have_of (with_own x (p.queues me)) = ap have_of (put-same me (with_own x (p.queues me)) p.queues) in
    let right : length ((issues me x n).log me) ≡ length (n.log me ++ x ∷ []) = ap (λ (l : List Sent). length l) (put-same me (n.log me ++ x ∷ []) n.log) in
    let more = length-append (p.queues me).commands (x ∷ []) in
    let long = length-append (n.log me) (x ∷ []) in
    let all = s.own me in
    omega arith

own-session : {W : Type 0} (slots me : ℕ) (x : Sent) (n : Net W) → me < slots → own_time me 0 (n.peers me) ≤ x.time → IsSession slots n → IsSession slots (issues me x n)
own-session {W} slots me x n there time s =
    let p = n.peers me in
    let next = issues me x n in
    let bound = last-behind (clock_of p) p.whole.runs (s.peers me).sound.behind in
    let goes = own-goes slots me n.log x p there (s.peers me) (s.own me) (omega arith) in
    let ext = issued-extends me x n.log in
    let front = front-last (n.log me) (p.queues me) ((s.peers me).fronts me) in
    let whole : last_time 0 (n.log me) ≡ last_time (p.queues me).gone (p.queues me).commands =
    sym (front ∙ ap (λ (l : List Sent). last_time 0 l) (all-taken (have_of (p.queues me)) (n.log me) (s.own me))) in
    let have : (j o : ℕ) → have_of ((n.peers j).queues o) ≤ have_of ((next.peers j).queues o) =
    put-all (λ j q. (o : ℕ) → have_of ((n.peers j).queues o) ≤ have_of (q.queues o)) me (own me x p) n.peers goes.have (λ j o. omega arith) in
    let clock : (j : ℕ) → clock_of (n.peers j) ≤ clock_of (next.peers j) =
    put-all (λ j q. clock_of (n.peers j) ≤ clock_of q) me (own me x p) n.peers goes.clock (λ j. omega arith) in
    let grows : Grows n next = record { log = ext; have = have; clock = clock } in
    record {
      rise = put-all (λ o l. TimesRise 0 l) me (n.log me ++ x ∷ []) n.log (rise-push 0 (n.log me) x (s.rise me) (omega arith)) s.rise;
      peers = put-all (λ j q. IsPeer slots next.log q) me (own me x p) n.peers goes.peer (λ j. grown-peer slots n.log next.log (n.peers j) ext (s.peers j));
      own = λ j. elim (cases_eq j me) [
        | inl is ↦ subst (λ (k : ℕ). have_of ((next.peers k).queues k) ≡ length (next.log k)) (sym is) (own-all slots me x n s)
        | inr apart ↦ ap (λ (q : Peer W). have_of (q.queues j)) (put-other me (own me x p) n.peers j apart) ∙ s.own j
            ∙ ap (λ (l : List Sent). length l) (sym (put-other me (n.log me ++ x ∷ []) n.log j apart))
      ];
      known = put-all (λ j q. (k o : ℕ) → q.known k o ≤ have_of ((next.peers k).queues o)) me (own me x p) n.peers
          (λ k o. (let a = s.known me k o in let b = have k o in omega arith)) (λ j k o. (let a = s.known j k o in let b = have k o in omega arith));
      heard = put-all (λ j q. (k : ℕ) → q.heard k ≤ clock_of (next.peers k)) me (own me x p) n.peers
          (λ k. (let a = s.heard me k in let b = clock k in omega arith)) (λ j k. (let a = s.heard j k in let b = clock k in omega arith));
      packets = all-weaker (IsMade slots n) (IsMade slots next) n.packets (made-grows slots n next grows) s.packets;
    }

-- a packet that is made is one
pub packet-made : {W : Type 0} (slots me to : ℕ) (spans : List Span) (n : Net W) → IsSession slots n → IsMade slots n (packet_of slots me to spans (n.peers me))
packet-made slots me to spans n s =
    let m = n.peers me in
    let part = λ (a : Span). part_of a.origin a.first a.count (m.queues a.origin) in
    record {
      have = λ o. omega arith;
      clock = omega arith;
      echo = s.heard me to;
      there = all-to_map (λ (p : Part). p.origin < slots) part (filter (may_span slots to m.queues) spans)
          (all-passed (may_span slots to m.queues) (λ (a : Span). a.origin < slots) (λ a e. ltb-true a.origin slots (and_parts _ _ e).0) spans);
      pieces = all-to_map (λ (p : Part). IsPiece (n.log p.origin) p) part (filter (may_span slots to m.queues) spans)
          (all-passed (may_span slots to m.queues) (λ (a : Span). IsPiece (n.log a.origin) (part a))
          (λ a e. let ends = and_parts _ _ (and_parts _ _ (and_parts _ _ e).1).1 in
          part-piece a.origin a.first a.count (n.log a.origin) (m.queues a.origin) ((s.peers me).fronts a.origin) (leb-true (m.queues a.origin).kept a.first ends.0) (leb-true a.first (have_of (m.queues a.origin)) ends.1)) spans);
    }

same-made : {W : Type 0} (slots : ℕ) (n : Net W) (ps : List Packet) (p : Packet) → IsMade slots n p → IsMade slots (record n { packets = ps }) p
same-made slots n ps p h = record { have = h.have; clock = h.clock; echo = h.echo; there = h.there; pieces = h.pieces }

make-session : {W : Type 0} (slots me to : ℕ) (spans : List Span) (n : Net W) → IsSession slots n → IsSession slots (record n { packets = n.packets ++ packet_of slots me to spans (n.peers me) ∷ [] })
make-session slots me to spans n s =
    let p = packet_of slots me to spans (n.peers me) in
    let next : Net _ = record n { packets = n.packets ++ p ∷ [] } in
    record {
      rise = s.rise;
      peers = s.peers;
      own = s.own;
      known = s.known;
      heard = s.heard;
      packets = all-weaker (IsMade slots n) (IsMade slots next) (n.packets ++ p ∷ []) (same-made slots n (n.packets ++ p ∷ []))
          (all-push (IsMade slots n) n.packets p s.packets (packet-made slots me to spans n s));
    }

-- a packet that is made is refused by nobody that it is for
any-none : {X : Type 0} (p : X → Bool) (xs : List X) → AllByRecursion (λ x. p x ≡ false) xs → list_any p xs ≡ false
any-none p [] h = refl
any-none p (x ∷ xs) h = or_from (p x) (list_any p xs) h.0 (any-none p xs h.1)

pub none-refused : {W : Type 0} (slots : ℕ) (n : Net W) (p : Packet) → IsSession slots n → IsMade slots n p → is_refused p.to p (n.peers p.to) ≡ false
none-refused slots n p s h =
    let m = n.peers p.to in
    let claims = h.have p.to in
    let front = ((s.peers p.sender).fronts p.to).within in
    let own = s.own p.to in
    let echo = h.echo in
    let ahead : is_ahead p.to p m.queues (clock_of m) ≡ false = grind (arith, nat_tests) in
    or_from (is_ahead p.to p m.queues (clock_of m)) (list_any (λ part. conflicts part (m.queues part.origin)) p.parts) ahead
    (any-none (λ part. conflicts part (m.queues part.origin)) p.parts
    (all-weaker (λ part. IsPiece (n.log part.origin) part) (λ part. conflicts part (m.queues part.origin) ≡ false) p.parts
    (λ part k. no-conflict (n.log part.origin) part (m.queues part.origin) (s.rise part.origin) ((s.peers p.to).fronts part.origin) k) h.pieces))

pub heard-goes :
    {W : Type 0} (slots : ℕ) (most : ℕ → ℕ) (n : Net W) (p : Packet) → IsSession slots n → IsMade slots n p
    → Goes slots n.log (n.peers p.to) (hears_parts n.log most p.parts (heard_head p (n.peers p.to)))
heard-goes slots most n p s h =
    let m = n.peers p.to in
    let goes = parts-go slots n.log most p.parts (heard_head p m) s.rise (head-peer slots n.log p m (s.peers p.to)) h.there h.pieces in
    record { peer = goes.peer; have = goes.have; clock = goes.clock }

heard-session :
    {W : Type 0} (slots : ℕ) (most : ℕ → ℕ) (n : Net W) (p : Packet) → IsSession slots n → IsMade slots n p
    → IsSession slots (with_peer p.to (hears n.log most p.to p (n.peers p.to)) n)
heard-session {W} slots most n p s h =
    let m = n.peers p.to in
    let head = heard_head p m in
    let new = hears_parts n.log most p.parts head in
    let is : hears n.log most p.to p m ≡ new = ap (λ (b : Bool). cond b m new) (none-refused slots n p s h) in
    let known : (j o : ℕ) → head.known j o ≤ have_of ((n.peers j).queues o) =
    put-all (λ j k. (o : ℕ) → k o ≤ have_of ((n.peers j).queues o)) p.sender (λ o. max (m.known p.sender o) (p.have o)) m.known
    (λ o. (let a = s.known p.to p.sender o in let b = h.have o in omega arith)) (s.known p.to) in
    let heard : (j : ℕ) → head.heard j ≤ clock_of (n.peers j) =
    put-all (λ j k. k ≤ clock_of (n.peers j)) p.sender (max (m.heard p.sender) p.clock) m.heard
    (let a = s.heard p.to p.sender in let b = h.clock in omega arith) (s.heard p.to) in
    subst (λ (q : Peer W). IsSession slots (with_peer p.to q n)) (sym is)
    (session-peer slots p.to new n s (heard-goes slots most n p s h)
    (subst (λ (k : ℕ → ℕ → ℕ). (j o : ℕ) → k j o ≤ have_of ((n.peers j).queues o)) (sym (parts-known n.log most p.parts head)) known)
    (subst (λ (k : ℕ → ℕ). (j : ℕ) → k j ≤ clock_of (n.peers j)) (sym (parts-heard n.log most p.parts head)) heard))

pub step-session : {W : Type 0} (c : Session) (n : Net W) (e : NetStep) → IsSession c.slots n → IsSession c.slots (happens c n e)
step-session c n (Own me ahead bytes) s =
    let x : Sent = record { time = own_time me ahead (n.peers me); bytes = bytes } in
    elim (nat_lt me c.slots) as (λ v. nat_lt me c.slots ≡ v → IsSession c.slots (cond v (issues me x n) n)) [
      | true ↦ λ k. own-session c.slots me x n (ltb-true me c.slots k) (omega arith) s
      | false ↦ λ k. s
    ]
    refl
step-session c n (Move me e) s =
    elim (is_arrival e) as (λ v. is_arrival e ≡ v → IsSession c.slots (cond v n (with_peer me (moved e (n.peers me)) n))) [
      | true ↦ λ k. s
      | false ↦ λ k. move-session c.slots me e n k s
    ]
    refl
step-session c n (Forget me) s = forget-session c.slots me (c.keep me) n s
step-session c n (Make me to spans) s = make-session c.slots me to spans n s
step-session {W} c n (Hear which most) s =
    elim (slice_get n.packets which) as (λ (v : Option Packet). slice_get n.packets which ≡ v → IsSession c.slots (brings most v n)) [
      | Some p ↦ λ k. heard-session c.slots most n p s (all-get (IsMade c.slots n) n.packets which p s.packets k)
      | None ↦ λ k. s
    ]
    refl

-- whatever steps are made
pub run-session : {W : Type 0} (c : Session) (es : List NetStep) (n : Net W) → IsSession c.slots n → IsSession c.slots (run c n es)
unfolding run
run-session c [] n s = s
run-session c (e ∷ es) n s = run-session c es (happens c n e) (step-session c n e s)
