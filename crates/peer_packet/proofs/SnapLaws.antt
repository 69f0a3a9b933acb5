-- Snapshots both ways.
use Rattle.std.proofs.Common.{◌≡◌, ℕ, ◌+◌, ◌^◌, ◌<◌, ◌≤◌, Bool, true, false, cond, eqb, ◌&&◌, List, [], ◌∷◌, ◌++◌, length, drop, get_or, Result, Ok, Err, refl, sym, ap, subst, ◌∙◌, append_assoc}
use Rattle.std.specs.Prelude.{nat_le, nat_lt, IfOk}
use Rattle.std.specs.Int.{w16, w32, w64, to_le_bytes}
use Rattle.std.specs.List.{flat_map}
use Rattle.std.proofs.lemmas.Bool.{eqb-true, eq-eqb, and_parts}
use Rattle.std.proofs.lemmas.List.{append-nil, nil_from_length, drop_more, drop_all}
use Rattle.std.proofs.lemmas.List.Concat.{flat_map-cons}
use Rattle.tss_io.specs.Results.{◌>>=◌}
use Rattle.tss_io.specs.Reading.{Answers}
use Rattle.tss_io.proofs.Results.{bind_ok, then, ok_is}
use Rattle.peer_packet.specs.declared.fault.Fault.{Fault}
use Rattle.peer_packet.specs.declared.fault.Fault.TheVariants as faults
use Rattle.peer_packet.specs.declared.snapshot.Opening.{Opening}
use Rattle.peer_packet.specs.declared.snapshot.QueueHead.{QueueHead}
use Rattle.peer_packet.specs.declared.terms.Terms.{Terms}
use Rattle.peer_packet.specs.Packet.{sent_bytes, vector_bytes, AreTerms}
use Rattle.peer_packet.specs.Reading.{vector_at, behind, in_front}
use Rattle.peer_packet.specs.Snapshot.{Queue, Snapshot, issued, queue_head, queue_head_bytes, queue_bytes, opening_bytes, opening_of, snapshot_bytes, is_queue, IsQueue, AreQueues, IsSnapshot, queue_head_at, queue_at, queues_at, opening_at, snapshot_at}
use Rattle.peer_packet.specs.Slots.{slot_behind}
use Rattle.peer_packet.proofs.FieldLaws.{IsBytes, Takes, Takes-then, check_ok, byte_takes, wide16, wide32, wide64, number_takes, number_again}
use Rattle.peer_packet.proofs.SentLaws.{sents_take, sents_again}
use Rattle.peer_packet.proofs.CountLaws.{vector_takes, vector_again}

pub record IsHead (h : QueueHead) : Type 0 where
  pub late : h.late < 2 ^ 32
  pub count : h.count < 2 ^ 16
  pub before : h.before < 2 ^ 32

head_takes : (bytes : List ℕ) (x : QueueHead × List ℕ) → IsBytes bytes → queue_head_at bytes ≡ Ok x → Takes bytes (queue_head_bytes x.0) x.1 × IsHead x.0
unfolding queue_head_at
head_takes bytes x fits e =
    let a = bind_ok _ _ _ e in
    let b = bind_ok _ _ _ a.2 in
    let c = bind_ok _ _ _ b.2 in
    let t1 = number_takes w32 (2 ^ 32) wide32 faults.Part bytes a.0.0 a.0.1 fits a.1 in
    let t2 = number_takes w16 (2 ^ 16) wide16 faults.Part a.0.1 b.0.0 b.0.1 t1.0.rest_fits b.1 in
    let t3 = number_takes w32 (2 ^ 32) wide32 faults.Part b.0.1 c.0.0 c.0.1 t2.0.rest_fits c.1 in
    let e23 = Takes-then a.0.1 (to_le_bytes w16 b.0.0) b.0.1 (to_le_bytes w32 c.0.0) c.0.1 t2.0 t3.0 in
    let e13 = Takes-then bytes (to_le_bytes w32 a.0.0) a.0.1 (to_le_bytes w16 b.0.0 ++ to_le_bytes w32 c.0.0) c.0.1 t1.0 e23 in
    let made : QueueHead × List ℕ = (record { late = a.0.0; count = b.0.0; before = c.0.0 }, c.0.1) in
    subst (λ (y : QueueHead × List ℕ). Takes bytes (queue_head_bytes y.0) y.1 × IsHead y.0) (ok_is made x c.2) (e13, record { late = t1.1; count = t2.1; before = t3.1 })

pub head_again : (h : QueueHead) (rest : List ℕ) → IsHead h → queue_head_at (queue_head_bytes h ++ rest) ≡ Ok (h, rest)
unfolding queue_head_at
head_again h rest fits =
    let regrouped : queue_head_bytes h ++ rest ≡ to_le_bytes w32 h.late ++ (to_le_bytes w16 h.count ++ (to_le_bytes w32 h.before ++ rest)) =
    append_assoc (to_le_bytes w32 h.late) (to_le_bytes w16 h.count ++ to_le_bytes w32 h.before) rest ∙ ap (λ (x : List ℕ). to_le_bytes w32 h.late ++ x) (append_assoc (to_le_bytes w16 h.count) (to_le_bytes w32 h.before) rest) in
    ap queue_head_at regrouped ∙ rw (number_again w32 (2 ^ 32) wide32 faults.Part h.late (to_le_bytes w16 h.count ++ (to_le_bytes w32 h.before ++ rest)) fits.late, number_again w16 (2 ^ 16) wide16 faults.Part h.count (to_le_bytes w32 h.before ++ rest) fits.count, number_again w32 (2 ^ 32) wide32 faults.Part h.before rest fits.before) refl

queue_takes : (payload base n : ℕ) (bytes : List ℕ) (x : Queue × List ℕ) → IsBytes bytes → queue_at payload base n bytes ≡ Ok x → Takes bytes (queue_bytes x.0) x.1 × IsQueue payload base n x.0
unfolding queue_at
queue_takes payload base n bytes x fits e =
    let a = bind_ok _ _ _ e in
    let b = bind_ok _ _ _ a.2 in
    let c = bind_ok _ _ _ b.2 in
    let t0 = head_takes bytes a.0 fits a.1 in
    let right = check_ok (is_queue base n a.0.0) faults.Part b.0 b.1 in
    let t1 = sents_take payload a.0.0.count base a.0.1 c.0 t0.0.rest_fits c.1 in
    let both = Takes-then bytes (queue_head_bytes a.0.0) a.0.1 (flat_map sent_bytes c.0.0) c.0.1 t0.0 t1.0 in
    let made : Queue × List ℕ = (record { late = a.0.0.late; before = a.0.0.before; commands = c.0.0 }, c.0.1) in
    let same : queue_head made.0 ≡ a.0.0 = rw t1.1 refl in
    let whole : Takes bytes (queue_bytes made.0) made.1 = subst (λ (h : QueueHead). Takes bytes (queue_head_bytes h ++ flat_map sent_bytes c.0.0) c.0.1) (sym same) both in
    let is : IsQueue payload base n made.0 = record {
      late = t0.1.late;
      count = rw t1.1 t0.1.count;
      before = t0.1.before;
      head = subst (λ (h : QueueHead). is_queue base n h ≡ true) (sym same) right;
      commands = t1.2;
    } in
    subst (λ (y : Queue × List ℕ). Takes bytes (queue_bytes y.0) y.1 × IsQueue payload base n y.0) (ok_is made x c.2) (whole, is)

queue_again : (payload base n : ℕ) (q : Queue) (rest : List ℕ) → IsQueue payload base n q → queue_at payload base n (queue_bytes q ++ rest) ≡ Ok (q, rest)
unfolding queue_at
queue_again payload base n q rest fits =
    let regrouped : queue_bytes q ++ rest ≡ queue_head_bytes (queue_head q) ++ (flat_map sent_bytes q.commands ++ rest) = append_assoc (queue_head_bytes (queue_head q)) (flat_map sent_bytes q.commands) rest in
    let head = head_again (queue_head q) (flat_map sent_bytes q.commands ++ rest) (record { late = fits.late; count = fits.count; before = fits.before }) in
    ap (queue_at payload base n) regrouped ∙ rw (head, fits.head, sents_again payload base q.commands rest fits.commands) refl

pub queues_take : (payload base : ℕ) (ns bytes : List ℕ) (x : List Queue × List ℕ) → IsBytes bytes → queues_at payload base ns bytes ≡ Ok x → Takes bytes (flat_map queue_bytes x.0) x.1 × AreQueues payload base ns x.0
unfolding queues_at
queues_take payload base [] bytes x fits e =
    subst (λ (y : List Queue × List ℕ). Takes bytes (flat_map queue_bytes y.0) y.1 × AreQueues payload base [] y.0) (ok_is ([], bytes) x e) (record { parts = refl; rest_fits = fits }, tt)
queues_take payload base (n ∷ ns) bytes x fits e =
    let a = bind_ok (queue_at payload base n bytes) (λ q. queues_at payload base ns q.1 >>= λ more. Ok (q.0 ∷ more.0, more.1)) x e in
    let b = bind_ok (queues_at payload base ns a.0.1) (λ more. Ok (a.0.0 ∷ more.0, more.1)) x a.2 in
    let first = queue_takes payload base n bytes a.0 fits a.1 in
    let second = queues_take payload base ns a.0.1 b.0 first.0.rest_fits b.1 in
    let both = Takes-then bytes (queue_bytes a.0.0) a.0.1 (flat_map queue_bytes b.0.0) b.0.1 first.0 second.0 in
    let made : List Queue × List ℕ = (a.0.0 ∷ b.0.0, b.0.1) in
    subst (λ (y : List Queue × List ℕ). Takes bytes (flat_map queue_bytes y.0) y.1 × AreQueues payload base (n ∷ ns) y.0) (ok_is made x b.2) (rw flat_map-cons both, (first.1, second.1))

queues_again : (payload base : ℕ) (ns : List ℕ) (qs : List Queue) (rest : List ℕ) → AreQueues payload base ns qs → queues_at payload base ns (flat_map queue_bytes qs ++ rest) ≡ Ok (qs, rest)
unfolding queues_at
queues_again payload base [] [] rest fits = refl
queues_again payload base [] (q ∷ qs) rest fits = absurd fits
queues_again payload base (n ∷ ns) [] rest fits = absurd fits
queues_again payload base (n ∷ ns) (q ∷ qs) rest fits =
    let regrouped : flat_map queue_bytes (q ∷ qs) ++ rest ≡ queue_bytes q ++ (flat_map queue_bytes qs ++ rest) = ap (λ (x : List ℕ). x ++ rest) (flat_map-cons queue_bytes q qs) ∙ append_assoc (queue_bytes q) (flat_map queue_bytes qs) rest in
    ap (queues_at payload base (n ∷ ns)) regrouped ∙ then _ _ _ _ (queue_again payload base n q (flat_map queue_bytes qs ++ rest) fits.0) (then _ _ _ _ (queues_again payload base ns qs rest fits.1) refl)

-- ---- the opening

pub record IsOpening (terms : Terms) (o : Opening) : Type 0 where
  maker : nat_lt o.maker terms.slots ≡ true
  base : o.base < 2 ^ 32
  clock : o.clock < 2 ^ 32
  ahead : nat_le o.base o.clock ≡ true

abbrev text_by : ℕ → ℕ → ℕ → ℕ → Opening → List ℕ
text_by kind session slots payload o = kind ∷ to_le_bytes w64 session ++ (slots ∷ payload ∷ o.maker ∷ to_le_bytes w32 o.base ++ to_le_bytes w32 o.clock)

pub opening_takes : (terms : Terms) (bytes : List ℕ) (x : Opening × List ℕ) → IsBytes bytes → opening_at terms bytes ≡ Ok x → Takes bytes (opening_bytes terms x.0) x.1 × IsOpening terms x.0
unfolding opening_at
opening_takes terms bytes x fits e =
    let kind = bind_ok _ _ _ e in
    let right = bind_ok _ _ _ kind.2 in
    let session = bind_ok _ _ _ right.2 in
    let slots = bind_ok _ _ _ session.2 in
    let payload = bind_ok _ _ _ slots.2 in
    let ours = bind_ok _ _ _ payload.2 in
    let maker = bind_ok _ _ _ ours.2 in
    let ends = bind_ok _ _ _ maker.2 in
    let base = bind_ok _ _ _ ends.2 in
    let clock = bind_ok _ _ _ base.2 in
    let ahead = bind_ok _ _ _ clock.2 in
    let t0 = byte_takes faults.Kind bytes kind.0.0 kind.0.1 fits kind.1 in
    let two = eqb-true kind.0.0 2 (check_ok (eqb kind.0.0 2) faults.Kind right.0 right.1) in
    let t1 = number_takes w64 (2 ^ 64) wide64 faults.Session kind.0.1 session.0.0 session.0.1 t0.rest_fits session.1 in
    let t2 = byte_takes faults.Session session.0.1 slots.0.0 slots.0.1 t1.0.rest_fits slots.1 in
    let t3 = byte_takes faults.Session slots.0.1 payload.0.0 payload.0.1 t2.rest_fits payload.1 in
    let same = check_ok (eqb session.0.0 terms.session && (eqb slots.0.0 terms.slots && eqb payload.0.0 terms.payload)) faults.OtherSession ours.0 ours.1 in
    let p = and_parts (eqb session.0.0 terms.session) (eqb slots.0.0 terms.slots && eqb payload.0.0 terms.payload) same in
    let q = and_parts (eqb slots.0.0 terms.slots) (eqb payload.0.0 terms.payload) p.1 in
    let s1 = eqb-true session.0.0 terms.session p.0 in
    let s2 = eqb-true slots.0.0 terms.slots q.0 in
    let s3 = eqb-true payload.0.0 terms.payload q.1 in
    let t4 = byte_takes faults.Ends payload.0.1 maker.0.0 maker.0.1 t3.rest_fits maker.1 in
    let t5 = number_takes w32 (2 ^ 32) wide32 faults.Head maker.0.1 base.0.0 base.0.1 t4.rest_fits base.1 in
    let t6 = number_takes w32 (2 ^ 32) wide32 faults.Head base.0.1 clock.0.0 clock.0.1 t5.0.rest_fits clock.1 in
    let e56 = Takes-then maker.0.1 (to_le_bytes w32 base.0.0) base.0.1 (to_le_bytes w32 clock.0.0) clock.0.1 t5.0 t6.0 in
    let e46 = Takes-then payload.0.1 (maker.0.0 ∷ []) maker.0.1 (to_le_bytes w32 base.0.0 ++ to_le_bytes w32 clock.0.0) clock.0.1 t4 e56 in
    let e36 = Takes-then slots.0.1 (payload.0.0 ∷ []) payload.0.1 (maker.0.0 ∷ to_le_bytes w32 base.0.0 ++ to_le_bytes w32 clock.0.0) clock.0.1 t3 e46 in
    let e26 = Takes-then session.0.1 (slots.0.0 ∷ []) slots.0.1 (payload.0.0 ∷ maker.0.0 ∷ to_le_bytes w32 base.0.0 ++ to_le_bytes w32 clock.0.0) clock.0.1 t2 e36 in
    let e16 = Takes-then kind.0.1 (to_le_bytes w64 session.0.0) session.0.1 (slots.0.0 ∷ payload.0.0 ∷ maker.0.0 ∷ to_le_bytes w32 base.0.0 ++ to_le_bytes w32 clock.0.0) clock.0.1 t1.0 e26 in
    let made : Opening × List ℕ = (record { maker = maker.0.0; base = base.0.0; clock = clock.0.0 }, clock.0.1) in
    let e06 : Takes bytes (text_by kind.0.0 session.0.0 slots.0.0 payload.0.0 made.0) clock.0.1 = Takes-then bytes (kind.0.0 ∷ []) kind.0.1 _ clock.0.1 t0 e16 in
    let whole : Takes bytes (opening_bytes terms made.0) made.1 = subst (λ (p : ℕ × ℕ × ℕ × ℕ). Takes bytes (text_by p.0 p.1 p.2 p.3 made.0) clock.0.1) (λ i. (two i, s1 i, s2 i, s3 i)) e06 in
    subst (λ (y : Opening × List ℕ). Takes bytes (opening_bytes terms y.0) y.1 × IsOpening terms y.0) (ok_is made x ahead.2)
    (whole, record { maker = check_ok (nat_lt maker.0.0 terms.slots) faults.Ends ends.0 ends.1; base = t5.1; clock = t6.1; ahead = check_ok (nat_le base.0.0 clock.0.0) faults.Head ahead.0 ahead.1 })

opening_again : (terms : Terms) (o : Opening) (rest : List ℕ) → terms.session < 2 ^ 64 → IsOpening terms o → opening_at terms (opening_bytes terms o ++ rest) ≡ Ok (o, rest)
unfolding opening_at
opening_again terms o rest session fits =
    let clocks : (to_le_bytes w32 o.base ++ to_le_bytes w32 o.clock) ++ rest ≡ to_le_bytes w32 o.base ++ (to_le_bytes w32 o.clock ++ rest) = append_assoc (to_le_bytes w32 o.base) (to_le_bytes w32 o.clock) rest in
    let regrouped : opening_bytes terms o ++ rest ≡ 2 ∷ (to_le_bytes w64 terms.session ++ (terms.slots ∷ terms.payload ∷ o.maker ∷ (to_le_bytes w32 o.base ++ (to_le_bytes w32 o.clock ++ rest)))) =
    ap (λ (x : List ℕ). 2 ∷ x) (append_assoc (to_le_bytes w64 terms.session) (terms.slots ∷ terms.payload ∷ o.maker ∷ (to_le_bytes w32 o.base ++ to_le_bytes w32 o.clock)) rest)
    ∙ ap (λ (x : List ℕ). 2 ∷ (to_le_bytes w64 terms.session ++ (terms.slots ∷ terms.payload ∷ o.maker ∷ x))) clocks in
    let s1 : eqb terms.session terms.session ≡ true = eq-eqb _ _ refl in
    let s2 : eqb terms.slots terms.slots ≡ true = eq-eqb _ _ refl in
    let s3 : eqb terms.payload terms.payload ≡ true = eq-eqb _ _ refl in
    ap (opening_at terms) regrouped ∙ rw (
      number_again w64 (2 ^ 64) wide64 faults.Session terms.session (terms.slots ∷ terms.payload ∷ o.maker ∷ (to_le_bytes w32 o.base ++ (to_le_bytes w32 o.clock ++ rest))) session,
      s1,
      s2,
      s3,
      fits.maker,
      number_again w32 (2 ^ 32) wide32 faults.Head o.base (to_le_bytes w32 o.clock ++ rest) fits.base,
      number_again w32 (2 ^ 32) wide32 faults.Head o.clock rest fits.clock,
      fits.ahead,
    ) refl

-- ---- the snapshot

snapshot_takes : (terms : Terms) (bytes : List ℕ) (s : Snapshot) → IsBytes bytes → snapshot_at terms bytes ≡ Ok s → IsSnapshot terms s × (bytes ≡ snapshot_bytes terms s)
unfolding snapshot_at
snapshot_takes terms bytes s fits e =
    let opening = bind_ok {A = Opening × List ℕ} _ _ _ e in
    let have = bind_ok {A = List ℕ × List ℕ} _ _ _ opening.2 in
    let queues = bind_ok {A = List Queue × List ℕ} _ _ _ have.2 in
    let over = bind_ok {A = Unit {0}} _ _ _ queues.2 in
    let o = opening.0.0 in
    let t0 = opening_takes terms bytes opening.0 fits opening.1 in
    let t1 = vector_takes terms.slots opening.0.1 have.0 t0.0.rest_fits have.1 in
    let t2 = queues_take terms.payload o.base (issued have.0.0) have.0.1 queues.0 t1.0.rest_fits queues.1 in
    let none : queues.0.1 ≡ [] = nil_from_length queues.0.1 (eqb-true (length queues.0.1) 0 (check_ok (eqb (length queues.0.1) 0) faults.Rest over.0 over.1)) in
    let tail : have.0.1 ≡ flat_map queue_bytes queues.0.0 = t2.0.parts ∙ ap (λ (x : List ℕ). flat_map queue_bytes queues.0.0 ++ x) none ∙ append-nil (flat_map queue_bytes queues.0.0) in
    let made : Snapshot = record { maker = o.maker; base = o.base; clock = o.clock; have = have.0.0; queues = queues.0.0 } in
    let whole : bytes ≡ snapshot_bytes terms made = t0.0.parts ∙ ap (λ (x : List ℕ). opening_bytes terms o ++ x) (t1.0.parts ∙ ap (λ (x : List ℕ). vector_bytes have.0.0 ++ x) tail) in
    let is : IsSnapshot terms made = record { maker = t0.1.maker; base = t0.1.base; clock = t0.1.clock; ahead = t0.1.ahead; slots = t1.1; counts = t1.2; queues = t2.1 } in
    subst (λ (t : Snapshot). IsSnapshot terms t × (bytes ≡ snapshot_bytes terms t)) (ok_is made s over.2) (is, whole)

snapshot_again : (terms : Terms) (s : Snapshot) → AreTerms terms → IsSnapshot terms s → snapshot_at terms (snapshot_bytes terms s) ≡ Ok s
unfolding snapshot_at
snapshot_again terms s legal fits =
    let rest1 : List ℕ = flat_map queue_bytes s.queues in
    let rest0 : List ℕ = vector_bytes s.have ++ rest1 in
    let opening : opening_at terms (opening_bytes terms (opening_of s) ++ rest0) ≡ Ok (opening_of s, rest0) = opening_again terms (opening_of s) rest0 legal.session (record { maker = fits.maker; base = fits.base; clock = fits.clock; ahead = fits.ahead }) in
    let queues : queues_at terms.payload s.base (issued s.have) rest1 ≡ Ok (s.queues, []) = ap (queues_at terms.payload s.base (issued s.have)) (sym (append-nil rest1)) ∙ queues_again terms.payload s.base (issued s.have) s.queues [] fits.queues in
    then _ _ _ _ opening (then _ _ _ _ (vector_again terms.slots s.have rest1 fits.slots legal.slots fits.counts) (then _ _ _ _ queues refl))

pub snap_found : (terms : Terms) (bytes : List ℕ) (r : Result Snapshot Fault) → IsBytes bytes → Answers (λ s. s) r (snapshot_at terms bytes) → IfOk r (λ s. IsSnapshot terms s × (bytes ≡ snapshot_bytes terms s))
snap_found terms bytes (Ok s) fits given = snapshot_takes terms bytes s fits given
snap_found terms bytes (Err e) fits given = tt

pub snap_only : (terms : Terms) (bytes : List ℕ) (r : Result Snapshot Fault) → AreTerms terms → Answers (λ s. s) r (snapshot_at terms bytes) → (s : Snapshot) → IsSnapshot terms s → bytes ≡ snapshot_bytes terms s → r ≡ Ok s
snap_only terms bytes (Ok t) legal given s fits whole = let same : ◌≡◌ {A = Result Snapshot Fault} (Ok t) (Ok s) = sym given ∙ (ap (snapshot_at terms) whole ∙ snapshot_again terms s legal fits) in same
snap_only terms bytes (Err e) legal given s fits whole = let same : ◌≡◌ {A = Result Snapshot Fault} (Err e) (Ok s) = sym given ∙ (ap (snapshot_at terms) whole ∙ snapshot_again terms s legal fits) in same

-- ---- as the code goes

behind_more : (r : Result (List Queue × List ℕ) Fault) (q : Queue) → behind (r >>= λ more. Ok (q ∷ more.0, more.1)) ≡ behind r
behind_more (Ok x) q = refl
behind_more (Err f) q = refl

stopped : (r : Result (Queue × List ℕ) Fault) (g : Queue × List ℕ → Result (List Queue × List ℕ) Fault) (f : Fault) → behind r ≡ Err f → behind (r >>= g) ≡ Err f
stopped (Ok x) g f e = absurd cc
stopped (Err h) g f e = cc

queue_then : (payload base n : ℕ) (ns rest after : List ℕ) (b : Bool) → cond b (behind (queue_at payload base n rest)) (Ok rest) ≡ Ok after
    → behind (queues_at payload base (cond b (n ∷ issued ns) (issued ns)) rest) ≡ behind (queues_at payload base (issued ns) after)
unfolding queues_at
queue_then payload base n ns rest after false e = ap (λ (x : List ℕ). behind (queues_at payload base (issued ns) x)) (ok_is rest after e)
queue_then payload base n ns rest after true e =
    let a = bind_ok (queue_at payload base n rest) (λ x. Ok x.1) after e in
    let c = ok_is a.0.1 after a.2 in
    ap behind (then _ _ _ _ a.1 refl) ∙ (behind_more (queues_at payload base (issued ns) a.0.1) a.0.0 ∙ ap (λ (x : List ℕ). behind (queues_at payload base (issued ns) x)) c)

queue_stops : (payload base n : ℕ) (ns rest : List ℕ) (f : Fault) (b : Bool) → cond b (behind (queue_at payload base n rest)) (Ok rest) ≡ Err f
    → behind (queues_at payload base (cond b (n ∷ issued ns) (issued ns)) rest) ≡ Err f
unfolding queues_at
queue_stops payload base n ns rest f false e = absurd cc
queue_stops payload base n ns rest f true e = stopped (queue_at payload base n rest) _ f e

pub slots_on : (payload base : ℕ) (have : List ℕ) (i d : ℕ) (rest after : List ℕ) (total : Result (List ℕ) Fault) → i < length have → slot_behind payload base (get_or have i d) rest ≡ Ok after
    → behind (queues_at payload base (issued (drop i have)) rest) ≡ total → behind (queues_at payload base (issued (drop (i + 1) have)) after) ≡ total
slots_on payload base have i d rest after total lt e so_far =
    sym (ap (λ (ns : List ℕ). behind (queues_at payload base (issued ns) rest)) (drop_more have i d lt) ∙ queue_then payload base (get_or have i d) (drop (i + 1) have) rest after (nat_lt 0 (get_or have i d)) e) ∙ so_far

pub slots_stop : (payload base : ℕ) (have : List ℕ) (i d : ℕ) (rest : List ℕ) (f : Fault) (total : Result (List ℕ) Fault) → i < length have → slot_behind payload base (get_or have i d) rest ≡ Err f
    → behind (queues_at payload base (issued (drop i have)) rest) ≡ total → total ≡ Err f
slots_stop payload base have i d rest f total lt e so_far =
    sym so_far ∙ (ap (λ (ns : List ℕ). behind (queues_at payload base (issued ns) rest)) (drop_more have i d lt) ∙ queue_stops payload base (get_or have i d) (drop (i + 1) have) rest f (nat_lt 0 (get_or have i d)) e)

pub slots_done : (payload base : ℕ) (have : List ℕ) (i : ℕ) (rest : List ℕ) (total : Result (List ℕ) Fault) → length have ≤ i → behind (queues_at payload base (issued (drop i have)) rest) ≡ total → total ≡ Ok rest
unfolding queues_at
slots_done payload base have i rest total le so_far = sym so_far ∙ ap (λ (ns : List ℕ). behind (queues_at payload base (issued ns) rest)) (drop_all i have le)

queues_err : (r : Result (List Queue × List ℕ) Fault) (f : Fault) → behind r ≡ Err f → r ≡ Err f
queues_err (Ok x) f e = absurd cc
queues_err (Err g) f e = cc

pub queues_ok : (r : Result (List Queue × List ℕ) Fault) (rest : List ℕ) → behind r ≡ Ok rest → r ≡ Ok (in_front r, rest)
queues_ok (Ok x) rest e = ap (λ (y : List ℕ). Ok (x.0, y)) (ok_is x.1 rest e)
queues_ok (Err g) rest e = absurd cc

pub snap_stops : (terms : Terms) (bytes : List ℕ) (o : Opening) (have r0 r1 : List ℕ) (f : Fault) → opening_at terms bytes ≡ Ok (o, r0) → vector_at terms.slots r0 ≡ Ok (have, r1)
    → behind (queues_at terms.payload o.base (issued have) r1) ≡ Err f → snapshot_at terms bytes ≡ Err f
unfolding snapshot_at
snap_stops terms bytes o have r0 r1 f first second e = then _ _ _ _ first (then _ _ _ _ second (rw (queues_err _ f e) refl))

abbrev pub snap_shown : Terms → Opening → List ℕ → List ℕ → Snapshot
snap_shown terms o have r1 = record { maker = o.maker; base = o.base; clock = o.clock; have = have; queues = in_front (queues_at terms.payload o.base (issued have) r1) }

snap_ends : (terms : Terms) (bytes : List ℕ) (o : Opening) (have r0 r1 rest : List ℕ) (b : Bool) → opening_at terms bytes ≡ Ok (o, r0) → vector_at terms.slots r0 ≡ Ok (have, r1)
    → behind (queues_at terms.payload o.base (issued have) r1) ≡ Ok rest → eqb (length rest) 0 ≡ b → snapshot_at terms bytes ≡ cond b (Ok (snap_shown terms o have r1)) (Err faults.Rest)
unfolding snapshot_at
snap_ends terms bytes o have r0 r1 rest true first second e none = then _ _ _ _ first (then _ _ _ _ second (then _ _ _ _ (queues_ok _ rest e) (rw none refl)))
snap_ends terms bytes o have r0 r1 rest false first second e some = then _ _ _ _ first (then _ _ _ _ second (then _ _ _ _ (queues_ok _ rest e) (rw some refl)))

pub snap_over : (terms : Terms) (bytes : List ℕ) (o : Opening) (have r0 r1 rest : List ℕ) → opening_at terms bytes ≡ Ok (o, r0) → vector_at terms.slots r0 ≡ Ok (have, r1)
    → behind (queues_at terms.payload o.base (issued have) r1) ≡ Ok rest → eqb (length rest) 0 ≡ false → snapshot_at terms bytes ≡ Err faults.Rest
snap_over terms bytes o have r0 r1 rest first second e some = snap_ends terms bytes o have r0 r1 rest false first second e some

pub snap_whole : (terms : Terms) (bytes : List ℕ) (o : Opening) (have r0 r1 rest : List ℕ) → opening_at terms bytes ≡ Ok (o, r0) → vector_at terms.slots r0 ≡ Ok (have, r1)
    → behind (queues_at terms.payload o.base (issued have) r1) ≡ Ok rest → eqb (length rest) 0 ≡ true → snapshot_at terms bytes ≡ Ok (snap_shown terms o have r1)
snap_whole terms bytes o have r0 r1 rest first second e none = snap_ends terms bytes o have r0 r1 rest true first second e none
