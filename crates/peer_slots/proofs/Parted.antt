-- Parts of a packet, heard one after another.
use Rattle.std.proofs.Common.{◌≡◌, ℕ, zero, suc, ◌+◌, ◌*◌, ◌^◌, ◌<◌, ◌≤◌, true, false, cond, not, nat_lt, ◌==◌, ◌&&◌, ◌||◌, Some, None, List, [], ◌∷◌, map, length, get_or, refl, ap, sym, subst, ◌∙◌, arith}
use Rattle.std.specs.Prelude.{nat_le}
use Rattle.std.specs.List.{AllByRecursion}
use Rattle.std.proofs.lemmas.Bool.{and_parts, or_parts}
use Rattle.std.proofs.lemmas.Bool.Decides.{nat_tests}
use Rattle.rolling_mirror.specs.Rolling.{RollState}
use Rattle.peer_model.specs.Queue.{Queue, Part, conflicts}
use Rattle.peer_model.specs.Peer.{put}
use Rattle.peer_window.specs.Window.{RollPeer, rolls_part, rolls_parts}
use Rattle.peer_packet.specs.Packet.{AreParts, AreSent, is_part, head_of}
use Rattle.peer_packet.specs.Packet as wire
use Rattle.peer_packet.proofs.SentLaws.{AreSent-wider}
use Rattle.peer_calls.specs.Wire.{part_from}
use Rattle.peer_calls.specs.Hearing.{conflicting, tells_part, tells_parts}
use Rattle.peer_calls.specs.declared.told.Told.{Told}
use Rattle.peer_slots.specs.Queues.{QueueState, with_queue, ArePartsFrom, any_conflicts, first_conflict, window_at}

-- ---- the first of parts

below-at : (ns : List ℕ) (o : ℕ) → AllByRecursion (λ n. n < 2 ^ 32) ns → get_or ns o 0 < 2 ^ 32
below-at [] o h = omega arith
below-at (n ∷ ns) zero h = h.0
below-at (n ∷ ns) (suc o) h = below-at ns o h.1

-- what is known of it, and of those behind it
pub record IsFirst (slots least : ℕ) (p : wire.Part) (ps : List wire.Part) : Type 0 where
  pub low : least ≤ p.origin
  pub slot : p.origin < slots
  pub number : p.first + length p.commands < 2 ^ 32
  pub few : length p.commands < 2 ^ 16
  pub sent : AreSent 64 p.before p.commands
  pub rest : ArePartsFrom slots (p.origin + 1) ps

from-le : (a b : ℕ) → nat_le a b ≡ true → a ≤ b
from-le a b is = grind (arith, nat_tests)

from-lt : (a b : ℕ) → nat_lt a b ≡ true → a < b
from-lt a b is = grind (arith, nat_tests)

pub first-part : (slots least : ℕ) (p : wire.Part) (ps : List wire.Part) → ArePartsFrom slots least (p ∷ ps) → IsFirst slots least p ps
first-part slots least p ps h =
    let fits = h.rise.0 in
    let w = nat_le (p.first + length p.commands) (get_or h.have p.origin 0) in
    let begun = nat_lt 0 p.first || (p.before == 0 && nat_lt 0 (length p.commands)) in
    let a = and_parts (nat_le least p.origin) (nat_lt p.origin slots && (not (p.origin == h.to) && (w && begun))) fits.head in
    let b = and_parts (nat_lt p.origin slots) (not (p.origin == h.to) && (w && begun)) a.1 in
    let c = and_parts (not (p.origin == h.to)) (w && begun) b.1 in
    let d = and_parts w begun c.1 in
    let within = from-le (p.first + length p.commands) (get_or h.have p.origin 0) d.0 in
    let count = below-at h.have p.origin h.counts in
    record {
      low = from-le least p.origin a.0;
      slot = from-lt p.origin slots b.0;
      number = omega (arith, within, count);
      few = fits.count;
      sent = AreSent-wider h.payload 64 p.before p.before p.commands h.short (omega arith) fits.commands;
      rest = record { to = h.to; payload = h.payload; have = h.have; short = h.short; counts = h.counts; rise = h.rise.1 };
    }

-- ---- the first that conflicts

pub conflict-here : (p : Part) (ps : List Part) (queues : ℕ → Queue) → conflicts p (queues p.origin) ≡ true → first_conflict (p ∷ ps) queues ≡ Some p.origin
unfolding conflicting
conflict-here p ps queues is = rw is refl

pub conflict-later : (p : Part) (ps : List Part) (queues : ℕ → Queue) → conflicts p (queues p.origin) ≡ false → first_conflict (p ∷ ps) queues ≡ first_conflict ps queues
unfolding conflicting
conflict-later p ps queues is = rw is refl

pub conflict-none : (queues : ℕ → Queue) → first_conflict [] queues ≡ None
conflict-none queues = refl

-- what a part changes is of no slot behind it
agree-put : (slots least o : ℕ) (q : Queue) (queues : ℕ → Queue) (ps : List wire.Part) → o < least → ArePartsFrom slots least ps
    → any_conflicts (map part_from ps) (put o q queues) ≡ any_conflicts (map part_from ps) queues
agree-put slots least o q queues [] low h = refl
agree-put slots least o q queues (p ∷ ps) low h =
    let first = first-part slots least p ps h in
    let at = first.low in
    let other : (p.origin == o) ≡ false = grind (arith, nat_tests) in
    let next = agree-put slots (p.origin + 1) o q queues ps (omega (arith, at)) first.rest in
    λ i. conflicts (part_from p) (cond (other i) q (queues p.origin)) || next i

-- ---- parts are heard

-- what holds while they are: the parts that are left bring about what all do, and what is told is within bounds
pub record IsHearing {W : Type 0} (slots room : ℕ) (rolls : (ℕ → ℕ → ℕ) → (ℕ → ℕ) → RollPeer W) (tells : (ℕ → ℕ → ℕ) → (ℕ → ℕ) → Told)
    (left : List wire.Part) (q : QueueState) (r : RollState W) (t : Told) : Type 0 where
  pub least : ℕ
  pub from : ArePartsFrom slots least left
  pub agree : any_conflicts (map part_from left) q.queues ≡ false
  pub rolled : (known : ℕ → ℕ → ℕ) (heard : ℕ → ℕ) → rolls_parts room (map part_from left) (window_at q.queues known heard r) ≡ rolls known heard
  pub told : (known : ℕ → ℕ → ℕ) (heard : ℕ → ℕ) → tells_parts room (map part_from left) (window_at q.queues known heard r) t ≡ tells known heard
  pub slots_are : q.slots ≡ slots
  pub room_is : q.room ≡ room
  pub few : least ≤ 64
  pub taken : t.taken ≤ least * 65536
  pub late : t.late ≤ least * 8589934592

-- what hearing one part leaves
pub record HearsOne {W : Type 0} (p : wire.Part) (q new : QueueState) (r after : RollState W) (t end : Told) : Type 0 where
  pub queues : new ≡ with_queue p.origin (rolls_part q.room (part_from p) (q.queues p.origin) r).queue q
  pub mirror : after ≡ (rolls_part q.room (part_from p) (q.queues p.origin) r).roll
  pub told : end ≡ tells_part q.room (part_from p) (q.queues p.origin) r t
  pub taken : end.taken ≤ t.taken + length p.commands
  pub late : end.late ≤ t.late + 2 ^ 33

pub hears-on :
    {W : Type 0} (slots room : ℕ) (rolls : (ℕ → ℕ → ℕ) → (ℕ → ℕ) → RollPeer W) (tells : (ℕ → ℕ → ℕ) → (ℕ → ℕ) → Told)
    (p : wire.Part) (ps : List wire.Part) (q new : QueueState) (r after : RollState W) (t end : Told) → slots ≤ 64
    → IsHearing slots room rolls tells (p ∷ ps) q r t → HearsOne p q new r after t end → IsHearing slots room rolls tells ps new after end
unfolding rolls_parts tells_parts
hears-on {W} slots room rolls tells p ps q new r after t end most h one =
    let first = first-part slots h.least p ps h.from in
    let o = p.origin in
    let heard-of = λ (n : ℕ). rolls_part n (part_from p) (q.queues o) r in
    let agree = or_parts (conflicts (part_from p) (q.queues o)) (any_conflicts (map part_from ps) q.queues) h.agree in
    let low = first.low in
    let slot = first.slot in
    let few = first.few in
    let h-taken = h.taken in
    let h-late = h.late in
    let one-taken = one.taken in
    let one-late = one.late in
    let queues = one.queues ∙ ap (λ (n : ℕ). with_queue o (heard-of n).queue q) h.room_is in
    let mirror = one.mirror ∙ ap (λ (n : ℕ). (heard-of n).roll) h.room_is in
    let told = one.told ∙ ap (λ (n : ℕ). tells_part n (part_from p) (q.queues o) r t) h.room_is in
    record {
      least = o + 1;
      from = first.rest;
      agree = ap (λ (s : QueueState). any_conflicts (map part_from ps) s.queues) queues
          ∙ agree-put slots (o + 1) o (heard-of room).queue q.queues ps (omega arith) first.rest ∙ agree.1;
      rolled = λ known heard.
          (λ i. rolls_parts room (map part_from ps) (window_at (queues i).queues known heard (mirror i))) ∙ h.rolled known heard;
      told = λ known heard.
          (λ i. tells_parts room (map part_from ps) (window_at (queues i).queues known heard (mirror i)) (told i)) ∙ h.told known heard;
      slots_are = ap (λ (s : QueueState). s.slots) queues ∙ h.slots_are;
      room_is = ap (λ (s : QueueState). s.room) queues ∙ h.room_is;
      few = omega (arith, slot, most);
      taken = omega (arith, low, few, h-taken, one-taken);
      late = omega (arith, low, h-late, one-late);
    }

-- the parts that are left, of which there is a first one, or none
pub hears-next :
    {W : Type 0} (slots room : ℕ) (rolls : (ℕ → ℕ → ℕ) → (ℕ → ℕ) → RollPeer W) (tells : (ℕ → ℕ → ℕ) → (ℕ → ℕ) → Told)
    (left : List wire.Part) (p : wire.Part) (ps : List wire.Part) (q new : QueueState) (r after : RollState W) (t end : Told) → slots ≤ 64 → left ≡ p ∷ ps
    → IsHearing slots room rolls tells left q r t → HearsOne p q new r after t end → IsHearing slots room rolls tells ps new after end
hears-next slots room rolls tells left p ps q new r after t end most is h one =
    hears-on slots room rolls tells p ps q new r after t end most (subst (λ (l : List wire.Part). IsHearing slots room rolls tells l q r t) is h) one

pub hears-end :
    {W : Type 0} (slots room : ℕ) (rolls : (ℕ → ℕ → ℕ) → (ℕ → ℕ) → RollPeer W) (tells : (ℕ → ℕ → ℕ) → (ℕ → ℕ) → Told)
    (left : List wire.Part) (q : QueueState) (r : RollState W) (t : Told) → left ≡ []
    → IsHearing slots room rolls tells left q r t → (known : ℕ → ℕ → ℕ) (heard : ℕ → ℕ)
    → (window_at q.queues known heard r ≡ rolls known heard) × (t ≡ tells known heard)
unfolding rolls_parts tells_parts
hears-end {W} slots room rolls tells left q r t is h known heard =
    ((λ i. rolls_parts room (map part_from (sym is i)) (window_at q.queues known heard r)) ∙ h.rolled known heard, (λ i. tells_parts room (map part_from (sym is i)) (window_at q.queues known heard r) t) ∙ h.told known heard)
