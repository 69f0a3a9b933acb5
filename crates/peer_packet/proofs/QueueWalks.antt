-- Walks over the queues of a snapshot.
use Rattle.std.proofs.Common.{◌≡◌, ℕ, zero, suc, ◌≤◌, List, [], ◌∷◌, ◌++◌, length, Result, Ok, Err, true, false, cond, eqb, refl, sym, ap, ◌∙◌, append_assoc, arith}
use Rattle.std.specs.Prelude.{nat_lt}
use Rattle.std.specs.List.{flat_map}
use Rattle.std.proofs.lemmas.Bool.{eqb-true}
use Rattle.std.proofs.lemmas.List.{append-nil, nil_from_length}
use Rattle.std.proofs.lemmas.List.Concat.{flat_map-cons}
use Rattle.tss_io.specs.Results.{◌>>=◌}
use Rattle.tss_io.proofs.Results.{bind_ok, then}
use Rattle.peer_packet.specs.declared.fault.Fault.{Fault}
use Rattle.peer_packet.specs.declared.snapshot.Opening.{Opening}
use Rattle.peer_packet.specs.declared.snapshot.QueueHead.{QueueHead}
use Rattle.peer_packet.specs.declared.terms.Terms.{Terms}
use Rattle.peer_packet.specs.Packet.{Sent, sent_bytes, AreTerms}
use Rattle.peer_packet.specs.Reading.{sents_at, plain_sents, sents_in, AreCommands, behind, in_front, number_at, or_none, vector_at}
use Rattle.peer_packet.specs.Snapshot.{Queue, issued, queue_head, queue_head_bytes, queue_bytes, queue_head_at, any_queue_at, any_queues_at, plain_queues, queues_in, queues_at, opening_at, snapshot_at, IsQueue, AreQueues, AreShown}
use Rattle.peer_packet.proofs.SentLaws.{sents_again, AreSent-wider}
use Rattle.peer_packet.proofs.WalkLaws.{behind_ok, behind_err}
use Rattle.peer_packet.proofs.CountLaws.{vector_takes}
use Rattle.peer_packet.proofs.FieldLaws.{IsBytes}
use Rattle.peer_packet.proofs.SnapLaws.{head_again, opening_takes, queues_take, queues_ok, snap_whole}

-- ---- a queue, whatever its head

pub queue_headless : (base : ℕ) (bytes : List ℕ) (f : Fault) → queue_head_at bytes ≡ Err f → any_queue_at base bytes ≡ Err f
unfolding any_queue_at
queue_headless base bytes f e = rw e refl

pub queue_cut : (base : ℕ) (bytes commands : List ℕ) (h : QueueHead) (f : Fault) → queue_head_at bytes ≡ Ok (h, commands) → behind (sents_at 255 h.count base commands) ≡ Err f
    → any_queue_at base bytes ≡ Err f
unfolding any_queue_at
queue_cut base bytes commands h f head e = then _ _ _ _ head (rw (behind_err _ f e) refl)

-- what a queue's view owes: that its commands stand there, and that it is the queue
pub queue_shown : (base : ℕ) (bytes commands rest : List ℕ) (h : QueueHead) → queue_head_at bytes ≡ Ok (h, commands) → behind (sents_at 255 h.count base commands) ≡ Ok rest
    → AreCommands h.count base commands × (any_queue_at base bytes ≡ Ok (record { late = h.late; before = h.before; commands = sents_in h.count base commands }, rest))
unfolding plain_sents any_queue_at
queue_shown base bytes commands rest h head e =
    let b = behind_ok (sents_at 255 h.count base commands) rest e in
    let seen : sents_in h.count base commands ≡ b.0 = ap in_front b.1 in
    let whole : any_queue_at base bytes ≡ Ok (record { late = h.late; before = h.before; commands = b.0 }, rest) = then _ _ _ _ head (then _ _ _ _ b.1 refl) in (
      (rest, b.1 ∙ ap (λ (x : List Sent). Ok (x, rest)) (sym seen)),
      whole ∙ ap (λ (cs : List Sent). Ok (record { late = h.late; before = h.before; commands = cs }, rest)) (sym seen),
    )

any_again : (payload base n : ℕ) (q : Queue) (rest : List ℕ) → payload ≤ 255 → IsQueue payload base n q → any_queue_at base (queue_bytes q ++ rest) ≡ Ok (q, rest)
unfolding any_queue_at
any_again payload base n q rest short fits =
    let regrouped : queue_bytes q ++ rest ≡ queue_head_bytes (queue_head q) ++ (flat_map sent_bytes q.commands ++ rest) = append_assoc (queue_head_bytes (queue_head q)) (flat_map sent_bytes q.commands) rest in
    let head = head_again (queue_head q) (flat_map sent_bytes q.commands ++ rest) (record { late = fits.late; count = fits.count; before = fits.before }) in
    ap (any_queue_at base) regrouped ∙ rw (head, sents_again 255 base q.commands rest (AreSent-wider payload 255 base base q.commands short (omega arith) fits.commands)) refl

-- ---- queues to the end

-- a queue's bytes are some
from_some : (base most : ℕ) (bytes : List ℕ) (q : Queue) (after : List ℕ) (qs : List Queue) → any_queue_at base bytes ≡ Ok (q, after) → any_queues_at base most after ≡ Ok qs
    → any_queues_at base (suc most) bytes ≡ Ok (q ∷ qs)
unfolding any_queues_at any_queue_at queue_head_at number_at
from_some base most [] q after qs e more = absurd cc
from_some base most (b ∷ bytes) q after qs e more = then _ _ _ _ e (then _ _ _ _ more refl)

pub queues_plain : (payload base most : ℕ) (ns : List ℕ) (qs : List Queue) → payload ≤ 255 → length ns ≤ most → AreQueues payload base ns qs → any_queues_at base most (flat_map queue_bytes qs) ≡ Ok qs
unfolding any_queues_at
queues_plain payload base zero [] [] short few fits = refl
queues_plain payload base (suc most) [] [] short few fits = refl
queues_plain payload base most [] (q ∷ qs) short few fits = absurd fits
queues_plain payload base most (n ∷ ns) [] short few fits = absurd fits
queues_plain payload base zero (n ∷ ns) (q ∷ qs) short few fits = absurd omega (arith, few)
queues_plain payload base (suc most) (n ∷ ns) (q ∷ qs) short few fits =
    ap (any_queues_at base (suc most)) (flat_map-cons queue_bytes q qs)
    ∙ from_some base most (queue_bytes q ++ flat_map queue_bytes qs) q (flat_map queue_bytes qs) qs
    (any_again payload base n q (flat_map queue_bytes qs) short fits.0) (queues_plain payload base most ns qs short (omega (arith, few)) fits.1)

pub issued_few : (have : List ℕ) → length (issued have) ≤ length have
issued_few [] = omega arith
issued_few (n ∷ ns) =
    let more = issued_few ns in
    elim (nat_lt 0 n) as (λ v. length (cond v (n ∷ issued ns) (issued ns)) ≤ suc (length ns)) [ true ↦ omega (arith, more) | false ↦ omega (arith, more) ]

-- ---- the walk

plain_more : (base most : ℕ) (bytes : List ℕ) (qs : List Queue) → any_queues_at base most bytes ≡ Ok qs → any_queues_at base (suc most) bytes ≡ Ok qs
unfolding any_queues_at
plain_more base zero [] qs e = e
plain_more base zero (b ∷ bytes) qs e = absurd cc
plain_more base (suc most) [] qs e = e
plain_more base (suc most) (b ∷ bytes) qs e =
    let a = bind_ok (any_queue_at base (b ∷ bytes)) (λ q. any_queues_at base most q.1 >>= λ more. Ok (q.0 ∷ more)) qs e in
    let c = bind_ok (any_queues_at base most a.0.1) (λ more. Ok (a.0.0 ∷ more)) qs a.2 in
    then _ _ _ _ a.1 (then _ _ _ _ (plain_more base most a.0.1 c.0 c.1) c.2)

pub queues_none : (base : ℕ) (bytes : List ℕ) → length bytes ≡ 0 → queues_in base bytes ≡ []
unfolding plain_queues any_queues_at
queues_none base [] none = refl
queues_none base (b ∷ bytes) none = absurd omega (arith, none)

pub queues_not : (base : ℕ) (bytes : List ℕ) (f : Fault) → (length bytes ≡ 0 → ⊥) → plain_queues base bytes ≡ Ok (queues_in base bytes) → any_queue_at base bytes ≡ Err f → ⊥
unfolding plain_queues any_queues_at
queues_not base [] f some are e = some refl
queues_not base (b ∷ bytes) f some are e =
    let a = bind_ok (any_queue_at base (b ∷ bytes)) (λ q. any_queues_at base 63 q.1 >>= λ more. Ok (q.0 ∷ more)) _ are in
    let both : ◌≡◌ {A = Result (Queue × List ℕ) Fault} (Err f) (Ok a.0) = sym e ∙ a.1 in
    absurd cc

pub queues_next : (base : ℕ) (bytes : List ℕ) (q : Queue) (after : List ℕ) → (length bytes ≡ 0 → ⊥) → plain_queues base bytes ≡ Ok (queues_in base bytes) → any_queue_at base bytes ≡ Ok (q, after)
    → (plain_queues base after ≡ Ok (queues_in base after)) × (queues_in base bytes ≡ q ∷ queues_in base after)
unfolding plain_queues any_queues_at
queues_next base [] q after some are e = absurd (some refl)
queues_next base (b ∷ bytes) q after some are e =
    let whole : plain_queues base (b ∷ bytes) ≡ (any_queues_at base 63 after >>= λ more. Ok (q ∷ more)) = then _ _ _ _ e refl in
    let c = bind_ok (any_queues_at base 63 after) (λ more. Ok (q ∷ more)) _ (sym whole ∙ are) in
    let later : plain_queues base after ≡ Ok c.0 = plain_more base 63 after c.0 c.1 in
    let seen : queues_in base after ≡ c.0 = ap or_none later in
    let total : plain_queues base (b ∷ bytes) ≡ Ok (q ∷ c.0) = whole ∙ ap (λ (r : Result (List Queue) Fault). r >>= λ more. Ok (q ∷ more)) c.1 in
    let now : queues_in base (b ∷ bytes) ≡ q ∷ c.0 = ap or_none total in
    (later ∙ ap (λ (x : List Queue). Ok x) (sym seen), now ∙ ap (λ (x : List Queue). q ∷ x) (sym seen))

-- ---- a snapshot that was passed is shown

pub snap_passes : (terms : Terms) (bytes : List ℕ) (o : Opening) (have r0 r1 rest : List ℕ) → AreTerms terms → IsBytes bytes → opening_at terms bytes ≡ Ok (o, r0) → vector_at terms.slots r0 ≡ Ok (have, r1)
    → behind (queues_at terms.payload o.base (issued have) r1) ≡ Ok rest → eqb (length rest) 0 ≡ true
    → AreShown o.base have r1 × (snapshot_at terms bytes ≡ Ok (record { maker = o.maker; base = o.base; clock = o.clock; have = have; queues = queues_in o.base r1 }))
unfolding plain_queues
snap_passes terms bytes o have r0 r1 rest legal fits first second e none =
    let t0 = opening_takes terms bytes (o, r0) fits first in
    let t1 = vector_takes terms.slots r0 (have, r1) t0.0.rest_fits second in
    let r = queues_at terms.payload o.base (issued have) r1 in
    let qs : List Queue = in_front r in
    let t2 = queues_take terms.payload o.base (issued have) r1 (qs, rest) t1.0.rest_fits (queues_ok r rest e) in
    let gone : rest ≡ [] = nil_from_length rest (eqb-true (length rest) 0 none) in
    let tail : r1 ≡ flat_map queue_bytes qs = t2.0.parts ∙ ap (λ (x : List ℕ). flat_map queue_bytes qs ++ x) gone ∙ append-nil (flat_map queue_bytes qs) in
    let slots = legal.slots in
    let payload = legal.payload in
    let long = t1.1 in
    let few = issued_few have in
    let plain : plain_queues o.base r1 ≡ Ok qs = ap (any_queues_at o.base 64) tail ∙ queues_plain terms.payload o.base 64 (issued have) qs (omega arith) (omega arith) t2.1 in
    let seen : queues_in o.base r1 ≡ qs = ap or_none plain in (
      record {
        few = omega arith;
        plain = plain ∙ ap (λ (x : List Queue). Ok x) (sym seen);
        bytes = tail ∙ ap (λ (x : List Queue). flat_map queue_bytes x) (sym seen);
      },
      snap_whole terms bytes o have r0 r1 rest first second e none ∙ ap (λ (x : List Queue). Ok (record { maker = o.maker; base = o.base; clock = o.clock; have = have; queues = x })) (sym seen),
    )
