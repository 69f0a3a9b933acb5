-- Parts both ways.
use Rattle.std.proofs.Common.{◌≡◌, ℕ, zero, suc, ◌+◌, ◌^◌, ◌<◌, ◌≤◌, Bool, List, [], ◌∷◌, ◌++◌, length, Ok, refl, sym, ap, subst, ◌∙◌, append_assoc, arith}
use Rattle.std.specs.Int.{w16, w32, to_le_bytes}
use Rattle.std.specs.List.{flat_map}
use Rattle.std.proofs.lemmas.Bool.{leb-true, ltb-true, and_parts}
use Rattle.std.proofs.lemmas.List.Concat.{flat_map-cons}
use Rattle.tss_io.proofs.Results.{bind_ok, then, ok_is}
use Rattle.peer_packet.specs.declared.fault.Fault.TheVariants as faults
use Rattle.peer_packet.specs.declared.part.PartHead.{PartHead}
use Rattle.peer_packet.specs.Packet.{Part, sent_bytes, head_of, head_bytes, part_bytes, is_part, IsPart, AreParts}
use Rattle.peer_packet.specs.Reading.{head_at, part_at, parts_at, any_part, plain_parts}
use Rattle.peer_packet.proofs.FieldLaws.{IsBytes, Takes, Takes-then, check_ok, byte_takes, wide16, wide32, number_takes, number_again}
use Rattle.peer_packet.proofs.SentLaws.{sents_take, sents_again, AreSent-wider}

-- a head whose numbers have bytes
record IsHead (h : PartHead) : Type 0 where
  count : h.count < 2 ^ 16
  first : h.first < 2 ^ 32
  before : h.before < 2 ^ 32

head_takes : (bytes : List ℕ) (x : PartHead × List ℕ) → IsBytes bytes → head_at bytes ≡ Ok x → Takes bytes (head_bytes x.0) x.1 × IsHead x.0
unfolding head_at
head_takes bytes x fits e =
    let a = bind_ok _ _ _ e in
    let b = bind_ok _ _ _ a.2 in
    let c = bind_ok _ _ _ b.2 in
    let d = bind_ok _ _ _ c.2 in
    let t0 = byte_takes faults.Part bytes a.0.0 a.0.1 fits a.1 in
    let t1 = number_takes w16 (2 ^ 16) wide16 faults.Part a.0.1 b.0.0 b.0.1 t0.rest_fits b.1 in
    let t2 = number_takes w32 (2 ^ 32) wide32 faults.Part b.0.1 c.0.0 c.0.1 t1.0.rest_fits c.1 in
    let t3 = number_takes w32 (2 ^ 32) wide32 faults.Part c.0.1 d.0.0 d.0.1 t2.0.rest_fits d.1 in
    let e23 = Takes-then b.0.1 (to_le_bytes w32 c.0.0) c.0.1 (to_le_bytes w32 d.0.0) d.0.1 t2.0 t3.0 in
    let e13 = Takes-then a.0.1 (to_le_bytes w16 b.0.0) b.0.1 (to_le_bytes w32 c.0.0 ++ to_le_bytes w32 d.0.0) d.0.1 t1.0 e23 in
    let e03 = Takes-then bytes (a.0.0 ∷ []) a.0.1 (to_le_bytes w16 b.0.0 ++ (to_le_bytes w32 c.0.0 ++ to_le_bytes w32 d.0.0)) d.0.1 t0 e13 in
    let made : PartHead × List ℕ = (record { origin = a.0.0; count = b.0.0; first = c.0.0; before = d.0.0 }, d.0.1) in
    subst (λ (y : PartHead × List ℕ). Takes bytes (head_bytes y.0) y.1 × IsHead y.0) (ok_is made x d.2) (e03, record { count = t1.1; first = t2.1; before = t3.1 })

head_again : (h : PartHead) (rest : List ℕ) → IsHead h → head_at (head_bytes h ++ rest) ≡ Ok (h, rest)
unfolding head_at
head_again h rest fits =
    let regrouped : head_bytes h ++ rest ≡ h.origin ∷ (to_le_bytes w16 h.count ++ (to_le_bytes w32 h.first ++ (to_le_bytes w32 h.before ++ rest))) =
    ap (λ (x : List ℕ). h.origin ∷ x) (append_assoc (to_le_bytes w16 h.count) (to_le_bytes w32 h.first ++ to_le_bytes w32 h.before) rest ∙ ap (λ (x : List ℕ). to_le_bytes w16 h.count ++ x) (append_assoc (to_le_bytes w32 h.first) (to_le_bytes w32 h.before) rest)) in
    ap head_at regrouped ∙ rw (number_again w16 (2 ^ 16) wide16 faults.Part h.count (to_le_bytes w32 h.first ++ (to_le_bytes w32 h.before ++ rest)) fits.count, number_again w32 (2 ^ 32) wide32 faults.Part h.first (to_le_bytes w32 h.before ++ rest) fits.first, number_again w32 (2 ^ 32) wide32 faults.Part h.before rest fits.before) refl

part_takes : (test : PartHead → Bool) (payload : ℕ) (bytes : List ℕ) (x : Part × List ℕ) → IsBytes bytes → part_at test payload bytes ≡ Ok x → Takes bytes (part_bytes x.0) x.1 × IsPart test payload x.0
unfolding part_at
part_takes test payload bytes x fits e =
    let a = bind_ok _ _ _ e in
    let b = bind_ok _ _ _ a.2 in
    let c = bind_ok _ _ _ b.2 in
    let t0 = head_takes bytes a.0 fits a.1 in
    let right = check_ok (test a.0.0) faults.Part b.0 b.1 in
    let t1 = sents_take payload a.0.0.count a.0.0.before a.0.1 c.0 t0.0.rest_fits c.1 in
    let both = Takes-then bytes (head_bytes a.0.0) a.0.1 (flat_map sent_bytes c.0.0) c.0.1 t0.0 t1.0 in
    let made : Part × List ℕ = (record { origin = a.0.0.origin; first = a.0.0.first; before = a.0.0.before; commands = c.0.0 }, c.0.1) in
    let same : head_of made.0 ≡ a.0.0 = rw t1.1 refl in
    let whole : Takes bytes (part_bytes made.0) made.1 = subst (λ (h : PartHead). Takes bytes (head_bytes h ++ flat_map sent_bytes c.0.0) c.0.1) (sym same) both in
    let is : IsPart test payload made.0 = record {
      count = rw t1.1 t0.1.count;
      first = t0.1.first;
      before = t0.1.before;
      head = rw same right;
      commands = t1.2;
    } in
    subst (λ (y : Part × List ℕ). Takes bytes (part_bytes y.0) y.1 × IsPart test payload y.0) (ok_is made x c.2) (whole, is)

part_again : (test : PartHead → Bool) (payload : ℕ) (p : Part) (rest : List ℕ) → IsPart test payload p → part_at test payload (part_bytes p ++ rest) ≡ Ok (p, rest)
unfolding part_at
part_again test payload p rest fits =
    let regrouped : part_bytes p ++ rest ≡ head_bytes (head_of p) ++ (flat_map sent_bytes p.commands ++ rest) = append_assoc (head_bytes (head_of p)) (flat_map sent_bytes p.commands) rest in
    let head = head_again (head_of p) (flat_map sent_bytes p.commands ++ rest) (record { count = fits.count; first = fits.first; before = fits.before }) in
    ap (part_at test payload) regrouped ∙ rw (head, fits.head, sents_again payload p.before p.commands rest fits.commands) refl

-- the parts of these bytes
pub record IsRead (test : ℕ → PartHead → Bool) (payload least most : ℕ) (bytes : List ℕ) (ps : List Part) : Type 0 where
  pub whole : bytes ≡ flat_map part_bytes ps
  pub each : AreParts test payload least ps
  pub few : length ps ≤ most

pub parts_take : (test : ℕ → PartHead → Bool) (payload least most : ℕ) (bytes : List ℕ) (ps : List Part) → IsBytes bytes → parts_at test payload least most bytes ≡ Ok ps → IsRead test payload least most bytes ps
unfolding parts_at
parts_take test payload least zero [] ps fits e = subst (IsRead test payload least 0 []) (ok_is [] ps e) (record { whole = refl; each = tt; few = omega arith })
parts_take test payload least zero (b ∷ bytes) ps fits e = absurd cc
parts_take test payload least (suc most) [] ps fits e = subst (IsRead test payload least (suc most) []) (ok_is [] ps e) (record { whole = refl; each = tt; few = omega arith })
parts_take test payload least (suc most) (b ∷ bytes) ps fits e =
    let a = bind_ok _ _ _ e in
    let c = bind_ok _ _ _ a.2 in
    let first = part_takes (test least) payload (b ∷ bytes) a.0 fits a.1 in
    let more = parts_take test payload (a.0.0.origin + 1) most a.0.1 c.0 first.0.rest_fits c.1 in
    let whole : b ∷ bytes ≡ flat_map part_bytes (a.0.0 ∷ c.0) = first.0.parts ∙ ap (λ (x : List ℕ). part_bytes a.0.0 ++ x) more.whole ∙ sym (flat_map-cons part_bytes a.0.0 c.0) in
    let few = more.few in
    subst (IsRead test payload least (suc most) (b ∷ bytes)) (ok_is (a.0.0 ∷ c.0) ps c.2) (record { whole = whole; each = (first.1, more.each); few = omega arith })

pub parts_again : (test : ℕ → PartHead → Bool) (payload least most : ℕ) (ps : List Part) → AreParts test payload least ps → length ps ≤ most → parts_at test payload least most (flat_map part_bytes ps) ≡ Ok ps
unfolding parts_at
parts_again test payload least zero [] fits few = refl
parts_again test payload least (suc most) [] fits few = refl
parts_again test payload least zero (p ∷ ps) fits few = absurd omega (arith, few)
parts_again test payload least (suc most) (p ∷ ps) fits few =
    let first = part_again (test least) payload p (flat_map part_bytes ps) fits.0 in
    let more = parts_again test payload (p.origin + 1) most ps fits.1 (omega (arith, few)) in
    ap (parts_at test payload least (suc most)) (flat_map-cons part_bytes p ps) ∙ then _ _ _ _ first (then _ _ _ _ more refl)

-- ---- parts as views show them

plain_each : (test : ℕ → PartHead → Bool) (payload least other : ℕ) (ps : List Part) → payload ≤ 255 → AreParts test payload least ps → AreParts any_part 255 other ps
plain_each test payload least other [] p fits = tt
plain_each test payload least other (part ∷ ps) p fits = (
  record {
    count = fits.0.count;
    first = fits.0.first;
    before = fits.0.before;
    head = refl;
    commands = AreSent-wider payload 255 part.before part.before part.commands p (omega arith) fits.0.commands;
  },
  plain_each test payload (part.origin + 1) (part.origin + 1) ps p fits.1,
)

pub parts_plain : (test : ℕ → PartHead → Bool) (payload most : ℕ) (bytes : List ℕ) (ps : List Part) → payload ≤ 255 → most ≤ 256 → IsBytes bytes → parts_at test payload 0 most bytes ≡ Ok ps → plain_parts bytes ≡ Ok ps
unfolding plain_parts
parts_plain test payload most bytes ps p m fits e =
    let t = parts_take test payload 0 most bytes ps fits e in
    let few = t.few in
    ap plain_parts t.whole ∙ parts_again any_part 255 0 256 ps (plain_each test payload 0 0 ps p t.each) (omega arith)

-- origins that rise are no more than the slots
pub parts_few : (slots to : ℕ) (have : List ℕ) (payload least : ℕ) (ps : List Part) → AreParts (is_part slots to have) payload least ps → least ≤ slots → length ps + least ≤ slots
parts_few slots to have payload least [] fits le = omega (arith, le)
parts_few slots to have payload least (p ∷ ps) fits le =
    let low = and_parts _ _ fits.0.head in
    let high = and_parts _ _ low.1 in
    let above = leb-true least p.origin low.0 in
    let below = ltb-true p.origin slots high.0 in
    let more = parts_few slots to have payload (p.origin + 1) ps fits.1 (omega arith) in
    omega arith
