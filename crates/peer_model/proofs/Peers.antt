-- Whatever a peer does, it stays a peer.
use Rattle.std.proofs.Common.{◌≡◌, ℕ, suc, ◌+◌, ◌-◌, ◌≤◌, ◌<◌, true, false, cond, ◌==◌, nat_lt, List, [], ◌∷◌, ◌++◌, length, take, refl, ap, sym, ◌∙◌, subst, append-nil, arith}
use Rattle.std.specs.List.{AllByRecursion}
use Rattle.std.proofs.Math.Seq.{length-take-le, take-add, take-append-le}
use Rattle.std.proofs.Math.ListN.{length-append}
use Rattle.std.proofs.lemmas.Bool.{eqb-true}
use Rattle.std.proofs.lemmas.Bool.Decides.{nat_tests}
use Rattle.game_trait.specs.declared.command.Item.{Item}
use Rattle.game_trait.specs.declared.event.Event.{Event}
use Rattle.game_trait.specs.Count.{times}
use Rattle.game_trait.specs.Events.{is_arrival}
use Rattle.game_trait.specs.Run.{beats}
use Rattle.sync_model.specs.Lists.{last_of}
use Rattle.sync_model.specs.State.{last_clock}
use Rattle.sync_model.specs.Change.{next, after}
use Rattle.peer_model.specs.Queue.{Sent, Queue, Part, have_of, piece, due_before, TimesRise, with_own, heard_part, IsFront, IsPiece}
use Rattle.peer_model.specs.Peer.{Peer, Packet, put, clock_of, bound_of, numbered, arrived, own, moved, forgot, heard_head, hears_part, hears_parts, counted_of, IsPeer}
use Rattle.peer_model.proofs.Pieces.{front-grow, own-front, own-next, trimmed-front, trimmed-have, trimmed-passed, hears-part}
use Rattle.peer_model.proofs.Counting.{put-same, put-other, Arrives, count-all, same-counted, event-moves, moved-counted}

-- what holds of what is put and of all that was there holds of all
pub put-all :
    {X : Type 0} (P : ℕ → X → Type 0) (o : ℕ) (x : X) (f : ℕ → X) → P o x → ((p : ℕ) → P p (f p)) → (p : ℕ) → P p (put o x f p)
put-all {X} P o x f here all p =
    elim (p == o) as (λ v. (p == o) ≡ v → P p (cond v x (f p))) [
      | true ↦ λ e. subst (λ (j : ℕ). P j x) (sym (eqb-true p o e)) here
      | false ↦ λ e. all p
    ]
    refl

no-beats : beats [] ≡ 0
unfolding beats
no-beats = refl

last-in : (n : ℕ) (run : List Item) (runs : List (List Item)) → beats run ≤ n → AllByRecursion (λ r. beats r ≤ n) runs → beats (last_of run runs) ≤ n
unfolding last_of
last-in n run [] here h = here
last-in n run (r ∷ rs) here h = last-in n r rs h.0 h.1

-- what isn't due before a tick isn't counted
not-due : (bound : ℕ) (x : Sent) → bound ≤ x.time → due_before bound (x ∷ []) ≡ 0
unfolding times
not-due bound x due = (let e : nat_lt x.time bound ≡ false = grind (arith, nat_tests) in rw e refl)

-- no copy's clock is past what bounds all
pub last-behind : (n : ℕ) (runs : List (List Item)) → AllByRecursion (λ run. beats run ≤ n) runs → last_clock runs ≤ n
last-behind n runs h = last-in n [] runs (let e = no-beats in omega arith) h

-- a peer that went on
pub record Goes {W : Type 0} (slots : ℕ) (log : ℕ → List Sent) (m n : Peer W) : Type 0 where
  pub peer : IsPeer slots log n
  pub have : (o : ℕ) → have_of (m.queues o) ≤ have_of (n.queues o)
  pub clock : clock_of m ≤ clock_of n

stays : {W : Type 0} (slots : ℕ) (log : ℕ → List Sent) (m : Peer W) → IsPeer slots log m → Goes slots log m m
stays slots log m h = record { peer = h; have = λ o. omega arith; clock = omega arith }

-- ---- hearing

pub part-goes :
    {W : Type 0} (slots : ℕ) (log : ℕ → List Sent) (most : ℕ) (p : Part) (m : Peer W) → ((o : ℕ) → TimesRise 0 (log o))
    → IsPeer slots log m → p.origin < slots → IsPiece (log p.origin) p → Goes slots log m (hears_part log most p m)
part-goes {W} slots log most p m rise h there is =
    let o = p.origin in
    let q = m.queues o in
    let b = bound_of m in
    let r = heard_part b most p q in
    let new = hears-part b most (log o) p q (rise o) (h.fronts o) is in
    let ys = piece (have_of q) (have_of r - have_of q) (log o) in
    let n = hears_part log most p m in
    let up = new.grows in
    let old_within = (h.fronts o).within in
    let at = put-same o r m.queues in
    let seam : have_of q + (have_of r - have_of q) ≡ have_of r = omega arith in
    let here : counted_of log n o ≡ counted_of log m o ++ ys =
    ap (λ (s : Queue). take (have_of s) (log o)) at ∙ ap (λ (k : ℕ). take k (log o)) (sym seam) ∙ take-add (have_of q) (have_of r - have_of q) (log o) in
    let others : (j : ℕ) → (j ≡ o → ⊥) → counted_of log n j ≡ counted_of log m j = λ j apart. ap (λ (s : Queue). take (have_of s) (log j)) (put-other o r m.queues j apart) in
    let late_here : (n.queues o).late ≡ (m.queues o).late + due_before b ys = ap (λ (s : Queue). s.late) at ∙ new.late in
    let late_others : (j : ℕ) → (j ≡ o → ⊥) → (n.queues j).late ≡ (m.queues j).late = λ j apart. ap (λ (s : Queue). s.late) (put-other o r m.queues j apart) in
    let long : length (counted_of log m o) ≡ have_of q = length-take-le (have_of q) (log o) old_within in
    let come = count-all slots o ys (counted_of log m) (counted_of log n) (λ j. (m.queues j).late) (λ j. (n.queues j).late) m.whole h.sound h.counted there here others late_here late_others in
    let came : Arrives slots (counted_of log n) (λ j. (n.queues j).late) m.whole n.whole =
    subst (λ (k : ℕ). Arrives slots (counted_of log n) (λ j. (n.queues j).late) m.whole (arrived (numbered o k ys) m.whole)) long come in
    let bound = came.bound in
    record {
      peer = record {
        fronts = put-all (λ j s. IsFront (log j) s) o r m.queues new.front h.fronts;
        passed = λ j some. (let before : (n.queues j).gone < b = put-all (λ k s. 0 < s.kept → s.gone < b) o r m.queues (new.passed (h.passed o)) h.passed j some in omega arith);
        sound = came.sound;
        counted = came.counted;
      };
      have = put-all (λ j s. have_of (m.queues j) ≤ have_of s) o r m.queues up (λ j. omega arith);
      clock = (let same = came.clock in omega arith);
    }

pub parts-go :
    {W : Type 0} (slots : ℕ) (log : ℕ → List Sent) (most : ℕ → ℕ) (ps : List Part) (m : Peer W) → ((o : ℕ) → TimesRise 0 (log o))
    → IsPeer slots log m → AllByRecursion (λ p. p.origin < slots) ps → AllByRecursion (λ p. IsPiece (log p.origin) p) ps
    → Goes slots log m (hears_parts log most ps m)
unfolding hears_parts
parts-go slots log most [] m rise h there are = stays slots log m h
parts-go slots log most (p ∷ ps) m rise h there are =
    let one = part-goes slots log (most 0) p m rise h there.0 are.0 in
    let more = parts-go slots log (λ place. most (suc place)) ps (hears_part log (most 0) p m) rise one.peer there.1 are.1 in
    record {
      peer = more.peer;
      have = λ o. (let a = one.have o in let b = more.have o in omega arith);
      clock = (let a = one.clock in let b = more.clock in omega arith);
    }

-- parts tell nothing of what is known
pub parts-known : {W : Type 0} (log : ℕ → List Sent) (most : ℕ → ℕ) (ps : List Part) (m : Peer W) → (hears_parts log most ps m).known ≡ m.known
unfolding hears_parts
parts-known log most [] m = refl
parts-known log most (p ∷ ps) m = parts-known log (λ place. most (suc place)) ps (hears_part log (most 0) p m)

pub parts-heard : {W : Type 0} (log : ℕ → List Sent) (most : ℕ → ℕ) (ps : List Part) (m : Peer W) → (hears_parts log most ps m).heard ≡ m.heard
unfolding hears_parts
parts-heard log most [] m = refl
parts-heard log most (p ∷ ps) m = parts-heard log (λ place. most (suc place)) ps (hears_part log (most 0) p m)

pub head-peer : {W : Type 0} (slots : ℕ) (log : ℕ → List Sent) (p : Packet) (m : Peer W) → IsPeer slots log m → IsPeer slots log (heard_head p m)
head-peer slots log p m h = record { fronts = h.fronts; passed = h.passed; sound = h.sound; counted = h.counted }

-- ---- what a peer does by itself

pub moved-goes : {W : Type 0} (slots : ℕ) (log : ℕ → List Sent) (e : Event) (m : Peer W) → is_arrival e ≡ false → IsPeer slots log m → Goes slots log m (moved e m)
unfolding after
moved-goes slots log e m not h =
    let one = event-moves m.whole e not h.sound in
    record {
      peer = record {
        fronts = h.fronts;
        passed = λ o some. (let before = h.passed o some in let up = one.up in omega arith);
        sound = one.sound;
        counted = moved-counted slots (counted_of log m) (λ o. (m.queues o).late) m.whole (next m.whole e) one h.counted;
      };
      have = λ o. omega arith;
      clock = one.clock;
    }

pub forgot-goes : {W : Type 0} (slots : ℕ) (log : ℕ → List Sent) (keep : ℕ) (m : Peer W) → IsPeer slots log m → Goes slots log m (forgot keep m)
forgot-goes slots log keep m h =
    let b = bound_of m - keep in
    let n = forgot keep m in
    record {
      peer = record {
        fronts = λ o. trimmed-front b (log o) (m.queues o) (h.fronts o);
        passed = λ o some. trimmed-passed b (bound_of m) (m.queues o) (omega arith) (h.passed o) some;
        sound = h.sound;
        counted = same-counted slots (counted_of log m) (counted_of log n) (λ o. (m.queues o).late) (λ o. (n.queues o).late) m.whole
            (λ o. ap (λ (k : ℕ). take k (log o)) (trimmed-have b (m.queues o))) (λ o. refl) h.counted;
      };
      have = λ o. (let same = trimmed-have b (m.queues o) in omega arith);
      clock = omega arith;
    }

-- ---- issuing

-- a log that goes on
abbrev pub Extends : (ℕ → List Sent) → (ℕ → List Sent) → Type 0
Extends log more = (o : ℕ) → (rest : List Sent) × (more o ≡ log o ++ rest)

pub grown-peer : {W : Type 0} (slots : ℕ) (log more : ℕ → List Sent) (m : Peer W) → Extends log more → IsPeer slots log m → IsPeer slots more m
grown-peer slots log more m ext h =
    record {
      fronts = λ o. subst (λ (l : List Sent). IsFront l (m.queues o)) (sym (ext o).1) (front-grow (log o) (ext o).0 (m.queues o) (h.fronts o));
      passed = h.passed;
      sound = h.sound;
      counted = same-counted slots (counted_of log m) (counted_of more m) (λ o. (m.queues o).late) (λ o. (m.queues o).late) m.whole
          (λ o. ap (λ (l : List Sent). take (have_of (m.queues o)) l) (ext o).1 ∙ take-append-le (have_of (m.queues o)) (log o) (ext o).0 ((h.fronts o).within))
          (λ o. refl) h.counted;
    }

pub issued-extends : (me : ℕ) (x : Sent) (log : ℕ → List Sent) → Extends log (put me (log me ++ x ∷ []) log)
issued-extends me x log =
    put-all (λ o l. (rest : List Sent) × (l ≡ log o ++ rest)) me (log me ++ x ∷ []) log (x ∷ [], refl) (λ o. ([], sym (append-nil (log o))))

pub own-goes :
    {W : Type 0} (slots me : ℕ) (log : ℕ → List Sent) (x : Sent) (m : Peer W) → me < slots → IsPeer slots log m
    → have_of (m.queues me) ≡ length (log me) → bound_of m ≤ x.time
    → Goes slots (put me (log me ++ x ∷ []) log) m (own me x m)
unfolding numbered times
own-goes {W} slots me log x m there h all due =
    let more = put me (log me ++ x ∷ []) log in
    let ext = issued-extends me x log in
    let g = grown-peer slots log more m ext h in
    let q = m.queues me in
    let r = with_own x q in
    let n = own me x m in
    let b = bound_of m in
    let now : more me ≡ log me ++ x ∷ [] = put-same me (log me ++ x ∷ []) log in
    let at = put-same me r m.queues in
    let count : have_of r ≡ have_of q + 1 = (let e = length-append q.commands (x ∷ []) in omega arith) in
    let come_next : piece (have_of q) 1 (more me) ≡ x ∷ [] = ap (λ (l : List Sent). piece (have_of q) 1 l) now ∙ own-next (log me) x (have_of q) all in
    let here : counted_of more n me ≡ counted_of more m me ++ x ∷ [] =
    ap (λ (s : Queue). take (have_of s) (more me)) at ∙ ap (λ (k : ℕ). take k (more me)) count ∙ take-add (have_of q) 1 (more me)
    ∙ ap (λ (l : List Sent). take (have_of q) (more me) ++ l) come_next in
    let others : (j : ℕ) → (j ≡ me → ⊥) → counted_of more n j ≡ counted_of more m j = λ j apart. ap (λ (s : Queue). take (have_of s) (more j)) (put-other me r m.queues j apart) in
    let none : due_before b (x ∷ []) ≡ 0 = not-due b x due in
    let late_here : (n.queues me).late ≡ (m.queues me).late + due_before b (x ∷ []) = (let same = ap (λ (s : Queue). s.late) at in omega arith) in
    let late_others : (j : ℕ) → (j ≡ me → ⊥) → (n.queues j).late ≡ (m.queues j).late = λ j apart. ap (λ (s : Queue). s.late) (put-other me r m.queues j apart) in
    let long : length (counted_of more m me) ≡ have_of q = length-take-le (have_of q) (more me) ((g.fronts me).within) in
    let come = count-all slots me (x ∷ []) (counted_of more m) (counted_of more n) (λ j. (m.queues j).late) (λ j. (n.queues j).late) m.whole g.sound g.counted there here others late_here late_others in
    let came : Arrives slots (counted_of more n) (λ j. (n.queues j).late) m.whole n.whole =
    subst (λ (k : ℕ). Arrives slots (counted_of more n) (λ j. (n.queues j).late) m.whole (arrived (numbered me k (x ∷ [])) m.whole)) long come in
    let bound = came.bound in
    record {
      peer = record {
        fronts = put-all (λ j s. IsFront (more j) s) me r m.queues (subst (λ (l : List Sent). IsFront l r) (sym now) (own-front (log me) x q (h.fronts me) all)) g.fronts;
        passed = λ j some. (let before : (n.queues j).gone < b = put-all (λ k s. 0 < s.kept → s.gone < b) me r m.queues (h.passed me) h.passed j some in omega arith);
        sound = came.sound;
        counted = came.counted;
      };
      have = put-all (λ j s. have_of (m.queues j) ≤ have_of s) me r m.queues (omega arith) (λ j. omega arith);
      clock = (let same = came.clock in omega arith);
    }
