-- Packets both ways.
use Rattle.std.proofs.Common.{◌≡◌, ℕ, ◌+◌, ◌^◌, ◌<◌, ◌≤◌, Bool, true, false, cond, eqb, List, [], ◌∷◌, ◌++◌, length, Option, Some, None, Result, Ok, Err, refl, sym, ap, subst, ◌∙◌, append_assoc, length-append, arith}
use Rattle.std.specs.Prelude.{nat_le, IfSome, IfOk}
use Rattle.std.specs.Int.{w32, w64, to_le_bytes}
use Rattle.std.specs.List.{flat_map}
use Rattle.std.proofs.lemmas.Bool.{eqb-true, eqb-false, eq-eqb, leb-true}
use Rattle.tss_io.specs.Results.{◌>>=◌}
use Rattle.tss_io.specs.Reading.{Answers}
use Rattle.tss_io.proofs.Results.{bind_ok, then, ok_is}
use Rattle.peer_packet.specs.declared.fault.Fault.{Fault}
use Rattle.peer_packet.specs.declared.fault.Fault.TheVariants as faults
use Rattle.peer_packet.specs.declared.front.Front.{Front}
use Rattle.peer_packet.specs.declared.terms.Terms.{Terms}
use Rattle.peer_packet.specs.Packet.{Part, Packet, part_bytes, vector_bytes, flag_of, mark_bytes, front_text, front_of, bytes_of, are_ends, is_part, AreTerms, IsPacket}
use Rattle.peer_packet.specs.Reading.{number_at, front_at, vector_at, mark_at, parts_at, packet_at, parts_in, IsShown, ended}
use Rattle.peer_packet.proofs.FieldLaws.{IsBytes, Takes, Takes-then, check_ok, byte_takes, wide32, wide64, number_takes, number_again}
use Rattle.peer_packet.proofs.PartLaws.{parts_take, parts_again, parts_few, parts_plain}
use Rattle.peer_packet.proofs.CountLaws.{vector_takes, vector_again}

-- ---- a mark

abbrev MarkFits : Option (ℕ × ℕ) → Type 0
MarkFits mark = IfSome mark (λ m. (m.0 < 2 ^ 32) × (m.1 < 2 ^ 32))

mark_cases : (flag : ℕ) (b : Bool) → eqb flag 0 ≡ b → flag ≤ 1 → flag ≡ cond b 0 1
mark_cases flag true e le = eqb-true flag 0 e
mark_cases flag false e le = let some = eqb-false flag 0 e in omega (arith, some, le)

mark_by : (flag : ℕ) (b : Bool) (bytes : List ℕ) (x : Option (ℕ × ℕ) × List ℕ) → flag ≡ cond b 0 1 → IsBytes bytes
    → cond b (Ok (None, bytes)) (number_at w32 faults.Mark bytes >>= λ tick. number_at w32 faults.Mark tick.1 >>= λ sum. Ok (Some (tick.0, sum.0), sum.1)) ≡ Ok x
    → Takes bytes (mark_bytes x.0) x.1 × (flag ≡ flag_of x.0) × MarkFits x.0
mark_by flag true bytes x is fits e =
    subst (λ (y : Option (ℕ × ℕ) × List ℕ). Takes bytes (mark_bytes y.0) y.1 × (flag ≡ flag_of y.0) × MarkFits y.0) (ok_is (None, bytes) x e) (record { parts = refl; rest_fits = fits }, is, tt)
mark_by flag false bytes x is fits e =
    let a = bind_ok _ _ _ e in
    let b = bind_ok _ _ _ a.2 in
    let t0 = number_takes w32 (2 ^ 32) wide32 faults.Mark bytes a.0.0 a.0.1 fits a.1 in
    let t1 = number_takes w32 (2 ^ 32) wide32 faults.Mark a.0.1 b.0.0 b.0.1 t0.0.rest_fits b.1 in
    let both = Takes-then bytes (to_le_bytes w32 a.0.0) a.0.1 (to_le_bytes w32 b.0.0) b.0.1 t0.0 t1.0 in
    subst (λ (y : Option (ℕ × ℕ) × List ℕ). Takes bytes (mark_bytes y.0) y.1 × (flag ≡ flag_of y.0) × MarkFits y.0) (ok_is (Some (a.0.0, b.0.0), b.0.1) x b.2) (both, is, (t0.1, t1.1))

mark_takes : (flag : ℕ) (bytes : List ℕ) (x : Option (ℕ × ℕ) × List ℕ) → flag ≤ 1 → IsBytes bytes → mark_at flag bytes ≡ Ok x → Takes bytes (mark_bytes x.0) x.1 × (flag ≡ flag_of x.0) × MarkFits x.0
unfolding mark_at
mark_takes flag bytes x le fits e = mark_by flag (eqb flag 0) bytes x (mark_cases flag (eqb flag 0) refl le) fits e

mark_again : (mark : Option (ℕ × ℕ)) (rest : List ℕ) → MarkFits mark → mark_at (flag_of mark) (mark_bytes mark ++ rest) ≡ Ok (mark, rest)
unfolding mark_at
mark_again None rest fits = refl
mark_again (Some m) rest fits =
    let regrouped : mark_bytes (Some m) ++ rest ≡ to_le_bytes w32 m.0 ++ (to_le_bytes w32 m.1 ++ rest) = append_assoc (to_le_bytes w32 m.0) (to_le_bytes w32 m.1) rest in
    ap (mark_at 1) regrouped ∙ rw (number_again w32 (2 ^ 32) wide32 faults.Mark m.0 (to_le_bytes w32 m.1 ++ rest) fits.0, number_again w32 (2 ^ 32) wide32 faults.Mark m.1 rest fits.1) refl

-- ---- the front

record IsFront (terms : Terms) (f : Front) : Type 0 where
  ends : are_ends terms.slots f.from f.to ≡ true
  flag : nat_le f.flag 1 ≡ true
  clock : f.clock < 2 ^ 32
  echo : f.echo < 2 ^ 32

front_takes : (terms : Terms) (bytes : List ℕ) (x : Front × List ℕ) → IsBytes bytes → front_at terms bytes ≡ Ok x → Takes bytes (front_text terms.session x.0) x.1 × IsFront terms x.0
unfolding front_at
front_takes terms bytes x fits e =
    let kind = bind_ok _ _ _ e in
    let right = bind_ok _ _ _ kind.2 in
    let session = bind_ok _ _ _ right.2 in
    let ours = bind_ok _ _ _ session.2 in
    let from = bind_ok _ _ _ ours.2 in
    let to = bind_ok _ _ _ from.2 in
    let ends = bind_ok _ _ _ to.2 in
    let flag = bind_ok _ _ _ ends.2 in
    let clock = bind_ok _ _ _ flag.2 in
    let echo = bind_ok _ _ _ clock.2 in
    let known = bind_ok _ _ _ echo.2 in
    let t0 = byte_takes faults.Kind bytes kind.0.0 kind.0.1 fits kind.1 in
    let one = eqb-true kind.0.0 1 (check_ok (eqb kind.0.0 1) faults.Kind right.0 right.1) in
    let t1 = number_takes w64 (2 ^ 64) wide64 faults.Session kind.0.1 session.0.0 session.0.1 t0.rest_fits session.1 in
    let same = eqb-true session.0.0 terms.session (check_ok (eqb session.0.0 terms.session) faults.OtherSession ours.0 ours.1) in
    let t2 = byte_takes faults.Ends session.0.1 from.0.0 from.0.1 t1.0.rest_fits from.1 in
    let t3 = byte_takes faults.Ends from.0.1 to.0.0 to.0.1 t2.rest_fits to.1 in
    let t4 = byte_takes faults.Head to.0.1 flag.0.0 flag.0.1 t3.rest_fits flag.1 in
    let t5 = number_takes w32 (2 ^ 32) wide32 faults.Head flag.0.1 clock.0.0 clock.0.1 t4.rest_fits clock.1 in
    let t6 = number_takes w32 (2 ^ 32) wide32 faults.Head clock.0.1 echo.0.0 echo.0.1 t5.0.rest_fits echo.1 in
    let e56 = Takes-then flag.0.1 (to_le_bytes w32 clock.0.0) clock.0.1 (to_le_bytes w32 echo.0.0) echo.0.1 t5.0 t6.0 in
    let e46 = Takes-then to.0.1 (flag.0.0 ∷ []) flag.0.1 (to_le_bytes w32 clock.0.0 ++ to_le_bytes w32 echo.0.0) echo.0.1 t4 e56 in
    let e36 = Takes-then from.0.1 (to.0.0 ∷ []) to.0.1 (flag.0.0 ∷ to_le_bytes w32 clock.0.0 ++ to_le_bytes w32 echo.0.0) echo.0.1 t3 e46 in
    let e26 = Takes-then session.0.1 (from.0.0 ∷ []) from.0.1 (to.0.0 ∷ flag.0.0 ∷ to_le_bytes w32 clock.0.0 ++ to_le_bytes w32 echo.0.0) echo.0.1 t2 e36 in
    let made : Front × List ℕ = (record { from = from.0.0; to = to.0.0; flag = flag.0.0; clock = clock.0.0; echo = echo.0.0 }, echo.0.1) in
    let tail : List ℕ = from.0.0 ∷ to.0.0 ∷ flag.0.0 ∷ to_le_bytes w32 clock.0.0 ++ to_le_bytes w32 echo.0.0 in
    let e16 = Takes-then kind.0.1 (to_le_bytes w64 session.0.0) session.0.1 tail echo.0.1 t1.0 e26 in
    let e06 = Takes-then bytes (kind.0.0 ∷ []) kind.0.1 (to_le_bytes w64 session.0.0 ++ tail) echo.0.1 t0 e16 in
    let whole : Takes bytes (front_text terms.session made.0) made.1 = subst (λ (p : ℕ × ℕ). Takes bytes (p.0 ∷ (to_le_bytes w64 p.1 ++ tail)) echo.0.1) (λ i. (one i, same i)) e06 in
    subst (λ (y : Front × List ℕ). Takes bytes (front_text terms.session y.0) y.1 × IsFront terms y.0) (ok_is made x known.2)
    (whole, record { ends = check_ok (are_ends terms.slots from.0.0 to.0.0) faults.Ends ends.0 ends.1; flag = check_ok (nat_le flag.0.0 1) faults.Head known.0 known.1; clock = t5.1; echo = t6.1 })

front_again : (terms : Terms) (f : Front) (rest : List ℕ) → terms.session < 2 ^ 64 → IsFront terms f → front_at terms (front_text terms.session f ++ rest) ≡ Ok (f, rest)
unfolding front_at
front_again terms f rest session fits =
    let clocks : (to_le_bytes w32 f.clock ++ to_le_bytes w32 f.echo) ++ rest ≡ to_le_bytes w32 f.clock ++ (to_le_bytes w32 f.echo ++ rest) = append_assoc (to_le_bytes w32 f.clock) (to_le_bytes w32 f.echo) rest in
    let regrouped : front_text terms.session f ++ rest ≡ 1 ∷ (to_le_bytes w64 terms.session ++ (f.from ∷ f.to ∷ f.flag ∷ (to_le_bytes w32 f.clock ++ (to_le_bytes w32 f.echo ++ rest)))) =
    ap (λ (x : List ℕ). 1 ∷ x) (append_assoc (to_le_bytes w64 terms.session) (f.from ∷ f.to ∷ f.flag ∷ (to_le_bytes w32 f.clock ++ to_le_bytes w32 f.echo)) rest)
    ∙ ap (λ (x : List ℕ). 1 ∷ (to_le_bytes w64 terms.session ++ (f.from ∷ f.to ∷ f.flag ∷ x))) clocks in
    let ours : eqb terms.session terms.session ≡ true = eq-eqb _ _ refl in
    ap (front_at terms) regrouped ∙ rw (
      number_again w64 (2 ^ 64) wide64 faults.Session terms.session (f.from ∷ f.to ∷ f.flag ∷ (to_le_bytes w32 f.clock ++ (to_le_bytes w32 f.echo ++ rest))) session,
      ours,
      fits.ends,
      number_again w32 (2 ^ 32) wide32 faults.Head f.clock (to_le_bytes w32 f.echo ++ rest) fits.clock,
      number_again w32 (2 ^ 32) wide32 faults.Head f.echo rest fits.echo,
      fits.flag,
    ) refl

-- ---- the packet

flag_small : (mark : Option (ℕ × ℕ)) → nat_le (flag_of mark) 1 ≡ true
flag_small None = refl
flag_small (Some m) = refl

pub packet_takes : (terms : Terms) (bytes : List ℕ) (p : Packet) → IsBytes bytes → packet_at terms bytes ≡ Ok p → IsPacket terms p × (bytes ≡ bytes_of terms.session p)
unfolding packet_at
packet_takes terms bytes p fits e =
    let front = bind_ok {A = Front × List ℕ} _ _ _ e in
    let have = bind_ok {A = List ℕ × List ℕ} _ _ _ front.2 in
    let mark = bind_ok {A = Option (ℕ × ℕ) × List ℕ} _ _ _ have.2 in
    let parts = bind_ok {A = List Part} _ _ _ mark.2 in
    let f = front.0.0 in
    let t0 = front_takes terms bytes front.0 fits front.1 in
    let t1 = vector_takes terms.slots front.0.1 have.0 t0.0.rest_fits have.1 in
    let t2 = mark_takes f.flag have.0.1 mark.0 (leb-true f.flag 1 t0.1.flag) t1.0.rest_fits mark.1 in
    let t3 = parts_take (is_part terms.slots f.to have.0.0) terms.payload 0 terms.slots mark.0.1 parts.0 t2.0.rest_fits parts.1 in
    let made : Packet = record { from = f.from; to = f.to; clock = f.clock; echo = f.echo; have = have.0.0; mark = mark.0.0; parts = parts.0 } in
    let tail : mark.0.1 ≡ flat_map part_bytes parts.0 = t3.whole in
    let whole : bytes ≡ bytes_of terms.session made =
    t0.0.parts
    ∙ ap (λ (n : ℕ). front_text terms.session (record { from = f.from; to = f.to; flag = n; clock = f.clock; echo = f.echo }) ++ front.0.1) t2.1
    ∙ ap (λ (x : List ℕ). front_text terms.session (front_of made) ++ x) (t1.0.parts ∙ ap (λ (x : List ℕ). vector_bytes have.0.0 ++ x) (t2.0.parts ∙ ap (λ (x : List ℕ). mark_bytes mark.0.0 ++ x) tail)) in
    let is : IsPacket terms made = record {
      ends = t0.1.ends;
      clock = t0.1.clock;
      echo = t0.1.echo;
      slots = t1.1;
      counts = t1.2;
      mark = t2.2;
      parts = t3.each;
    } in
    subst (λ (q : Packet). IsPacket terms q × (bytes ≡ bytes_of terms.session q)) (ok_is made p parts.2) (is, whole)

pub packet_again : (terms : Terms) (p : Packet) → terms.session < 2 ^ 64 → terms.slots ≤ 64 → IsPacket terms p → packet_at terms (bytes_of terms.session p) ≡ Ok p
unfolding packet_at
packet_again terms p session slots fits =
    let f : Front = record { from = p.from; to = p.to; flag = flag_of p.mark; clock = p.clock; echo = p.echo } in
    let rest2 : List ℕ = flat_map part_bytes p.parts in
    let rest1 : List ℕ = mark_bytes p.mark ++ rest2 in
    let rest0 : List ℕ = vector_bytes p.have ++ rest1 in
    let front : front_at terms (front_text terms.session (front_of p) ++ rest0) ≡ Ok (f, rest0) = front_again terms f rest0 session (record { ends = fits.ends; flag = flag_small p.mark; clock = fits.clock; echo = fits.echo }) in
    let few = parts_few terms.slots p.to p.have terms.payload 0 p.parts fits.parts (omega arith) in
    then _ _ _ _ front (then _ _ _ _ (vector_again terms.slots p.have rest1 fits.slots slots fits.counts)
    (then _ _ _ _ (mark_again p.mark rest2 fits.mark)
    (then _ _ _ _ (parts_again (is_part terms.slots p.to p.have) terms.payload 0 terms.slots p.parts fits.parts (omega (arith, few))) refl)))

-- ---- as the code goes

-- the steps before the parts, which gave these
pub record IsMet (terms : Terms) (bytes : List ℕ) (f : Front) (have : List ℕ) (mark : Option (ℕ × ℕ)) (r0 r1 r2 : List ℕ) : Type 0 where
  pub at_front : front_at terms bytes ≡ Ok (f, r0)
  pub at_have : vector_at terms.slots r0 ≡ Ok (have, r1)
  pub at_mark : mark_at f.flag r1 ≡ Ok (mark, r2)

ended_err : (r : Result (List Part) Fault) (fault : Fault) → ended r ≡ Err fault → r ≡ Err fault
ended_err (Ok ps) fault e = absurd cc
ended_err (Err g) fault e = cc

ended_ok : (r : Result (List Part) Fault) (u : Unit {0}) → ended r ≡ Ok u → (ps : List Part) × (r ≡ Ok ps)
ended_ok (Ok ps) u e = (ps, refl)
ended_ok (Err g) u e = absurd cc

pub packet_stops : (terms : Terms) (bytes : List ℕ) (f : Front) (have : List ℕ) (mark : Option (ℕ × ℕ)) (r0 r1 r2 : List ℕ) (fault : Fault) → IsMet terms bytes f have mark r0 r1 r2
    → ended (parts_at (is_part terms.slots f.to have) terms.payload 0 terms.slots r2) ≡ Err fault → packet_at terms bytes ≡ Err fault
unfolding packet_at
packet_stops terms bytes f have mark r0 r1 r2 fault met e = then _ _ _ _ met.at_front (then _ _ _ _ met.at_have (then _ _ _ _ met.at_mark (rw (ended_err _ fault e) refl)))

-- what the view shows
abbrev pub shown : Front → List ℕ → Option (ℕ × ℕ) → List ℕ → Packet
shown f have mark parts = record { from = f.from; to = f.to; clock = f.clock; echo = f.echo; have = have; mark = mark; parts = parts_in parts }

pub packet_passes : (terms : Terms) (bytes : List ℕ) (f : Front) (have : List ℕ) (mark : Option (ℕ × ℕ)) (r0 r1 r2 : List ℕ) (u : Unit {0}) → AreTerms terms → IsBytes bytes → IsMet terms bytes f have mark r0 r1 r2
    → ended (parts_at (is_part terms.slots f.to have) terms.payload 0 terms.slots r2) ≡ Ok u
    → IsShown f.flag mark have r2 × (packet_at terms bytes ≡ Ok (shown f have mark r2))
unfolding packet_at
packet_passes terms bytes f have mark r0 r1 r2 u legal fits met e =
    let ps = ended_ok _ u e in
    let t0 = front_takes terms bytes (f, r0) fits met.at_front in
    let t1 = vector_takes terms.slots r0 (have, r1) t0.0.rest_fits met.at_have in
    let t2 = mark_takes f.flag r1 (mark, r2) (leb-true f.flag 1 t0.1.flag) t1.0.rest_fits met.at_mark in
    let short = legal.payload in
    let few = legal.slots in
    let plain = parts_plain (is_part terms.slots f.to have) terms.payload terms.slots r2 ps.0 (omega arith) (omega arith) t2.0.rest_fits ps.1 in
    let seen : parts_in r2 ≡ ps.0 = rw plain refl in
    let t3 = parts_take (is_part terms.slots f.to have) terms.payload 0 terms.slots r2 ps.0 t2.0.rest_fits ps.1 in
    let long = t1.1 in (
      record {
        flag_is = t2.1;
        few = omega (arith, long, few);
        plain = plain ∙ ap (λ (x : List Part). Ok x) (sym seen);
        bytes = t3.whole ∙ ap (λ (x : List Part). flat_map part_bytes x) (sym seen);
      },
      rw seen (then _ _ _ _ met.at_front (then _ _ _ _ met.at_have (then _ _ _ _ met.at_mark (then _ _ _ _ ps.1 refl)))),
    )

pub is_found : (terms : Terms) (bytes : List ℕ) (r : Result Packet Fault) → IsBytes bytes → Answers (λ p. p) r (packet_at terms bytes) → IfOk r (λ p. IsPacket terms p × (bytes ≡ bytes_of terms.session p))
is_found terms bytes (Ok p) fits given = packet_takes terms bytes p fits given
is_found terms bytes (Err e) fits given = tt

pub is_only : (terms : Terms) (bytes : List ℕ) (r : Result Packet Fault) → AreTerms terms → Answers (λ p. p) r (packet_at terms bytes) → (p : Packet) → IsPacket terms p → bytes ≡ bytes_of terms.session p → r ≡ Ok p
is_only terms bytes (Ok q) legal given p fits whole =
    let again : packet_at terms bytes ≡ Ok p = rw whole (packet_again terms p legal.session legal.slots fits) in
    let same : ◌≡◌ {A = Result Packet Fault} (Ok q) (Ok p) = sym given ∙ again in
    same
is_only terms bytes (Err e) legal given p fits whole =
    let again : packet_at terms bytes ≡ Ok p = rw whole (packet_again terms p legal.session legal.slots fits) in
    let same : ◌≡◌ {A = Result Packet Fault} (Err e) (Ok p) = sym given ∙ again in
    same

-- ---- putting

pub bytes_put : (session : ℕ) (f : Front) (have parts : List ℕ) (mark : Option (ℕ × ℕ)) → IsShown f.flag mark have parts
    → ((front_text session f ++ vector_bytes have) ++ mark_bytes mark) ++ parts ≡ bytes_of session (shown f have mark parts)
bytes_put session f have parts mark is =
    append_assoc (front_text session f ++ vector_bytes have) (mark_bytes mark) parts
    ∙ append_assoc (front_text session f) (vector_bytes have) (mark_bytes mark ++ parts)
    ∙ ap (λ (n : ℕ). front_text session (record { from = f.from; to = f.to; flag = n; clock = f.clock; echo = f.echo }) ++ (vector_bytes have ++ (mark_bytes mark ++ parts))) is.flag_is
    ∙ ap (λ (x : List ℕ). front_text session (front_of (shown f have mark parts)) ++ (vector_bytes have ++ (mark_bytes mark ++ x))) is.bytes

pub bytes_long : (session : ℕ) (f : Front) (have parts : List ℕ) (mark : Option (ℕ × ℕ)) → IsShown f.flag mark have parts
    → length (bytes_of session (shown f have mark parts)) ≡ length (front_text session f) + (length (vector_bytes have) + (length (mark_bytes mark) + length parts))
bytes_long session f have parts mark is =
    ap (λ (x : List ℕ). length x) (sym (bytes_put session f have parts mark is))
    ∙ omega (arith, length-append ((front_text session f ++ vector_bytes have) ++ mark_bytes mark) parts, length-append (front_text session f ++ vector_bytes have) (mark_bytes mark), length-append (front_text session f) (vector_bytes have))
