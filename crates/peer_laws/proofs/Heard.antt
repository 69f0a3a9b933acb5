-- What is told of a packet.
use Rattle.std.proofs.Common.{◌≡◌, ◌∙◌, ap, sym, ℕ, ◌+◌, ◌<◌, ◌≢◌, ◌↔◌, Bool, true, false, not, ◌==◌, Option, Some, None, List, [], ◌∷◌, map, refl, arith}
use Rattle.std.specs.Prelude.{unwrap_or}
use Rattle.std.specs.List.{AllByRecursion, list_any}
use Rattle.std.proofs.lemmas.Bool.{and_parts, and_from, eq-eqb, eqb-true}
use Rattle.std.proofs.lemmas.Bool.Decides.{nat_tests}
use Rattle.std.proofs.lemmas.List.Folds.{Any-from_list_any, list_any-from_Any}
use Rattle.rolling_mirror.specs.Rolling.{RollState}
use Rattle.peer_model.specs.Queue.{Queue, Part, have_of}
use Rattle.peer_model.specs.Peer.{put}
use Rattle.peer_model.specs.declared.mark.Mark.{Mark}
use Rattle.peer_model.specs.Marks.{Marks, differ}
use Rattle.peer_packet.specs.Packet as wire
use Rattle.peer_window.specs.Window.{rolls_part, rolls_parts}
use Rattle.peer_calls.specs.declared.config.Config.{Config}
use Rattle.peer_calls.specs.declared.told.Told.{Told}
use Rattle.peer_calls.specs.State.{State, window_of}
use Rattle.peer_calls.specs.Wire.{part_from}
use Rattle.peer_calls.specs.Hearing.{is_differing, hears_head, hears_packet, told_of}
use Rattle.peer_laws.specs.Told.{total, stations, is_gap, stops_far, stops_full, answers_all, most_repaired, IsAnother}
use Rattle.peer_laws.proofs.Hearing.{parts-total, parts-stop}

origins : (slots : ℕ) (ps : List wire.Part) → AllByRecursion (λ p. p.origin < slots) ps → AllByRecursion (λ p. p.origin < slots) (map part_from ps)
origins slots [] h = tt
origins slots (p ∷ ps) h = (h.0, origins slots ps h.1)

-- nothing is told before the parts but whether marks differ
abbrev pub nothing : Bool → Told
nothing differs = record { taken = 0; late = 0; repaired = 0; gap = false; far = false; full = false; differs = differs }

-- of a peer's window queues and mirror alone decide what parts leave
parts-same : {W : Type 0} (room : ℕ) (ps : List Part) (queues : ℕ → Queue) (roll : RollState W) (k l : ℕ → ℕ → ℕ) (h i : ℕ → ℕ)
    → (rolls_parts room ps (record { queues = queues; known = k; heard = h; roll = roll })).queues ≡ (rolls_parts room ps (record { queues = queues; known = l; heard = i; roll = roll })).queues
unfolding rolls_parts
parts-same room [] queues roll k l h i = refl
parts-same room (p ∷ ps) queues roll k l h i =
    let on = rolls_part room p (queues p.origin) roll in
    parts-same room ps (put p.origin on.queue queues) on.roll k l h i

pub counted-told : {W : Type 0} (c : Config) (p : wire.Packet) (s : State W) → AllByRecursion (λ part. part.origin < c.terms.slots) p.parts
    → let told = told_of c p s in let after = hears_packet c p s in
    (total c.terms.slots (λ o. (after.queues o).late) ≡ total c.terms.slots (λ o. (s.queues o).late) + told.late)
    × (total c.terms.slots (λ o. have_of (after.queues o)) ≡ total c.terms.slots (λ o. have_of (s.queues o)) + (told.taken + told.late))
counted-told c p s there =
    let t = nothing (is_differing p.mark s.marks) in
    let totals = parts-total c.terms.slots c.room (map part_from p.parts) (window_of s) t (origins c.terms.slots p.parts there) in
    let v = window_of s in
    let w = window_of (hears_head p s) in
    let head = parts-same c.room (map part_from p.parts) s.queues s.roll v.known w.known v.heard w.heard in
    let late = totals.late in
    let have = totals.have in
    let same-late = ap (λ (f : ℕ → Queue). total c.terms.slots (λ o. (f o).late)) head in
    let same-have = ap (λ (f : ℕ → Queue). total c.terms.slots (λ o. have_of (f o))) head in
    (omega arith, omega arith)

pub stops-told : {W : Type 0} (c : Config) (p : wire.Packet) (s : State W)
    → let told = told_of c p s in let behind = stations c.room (map part_from p.parts) (window_of s) in
    (told.gap ≡ list_any is_gap behind)
    × (told.far ≡ list_any (stops_far c.room) behind)
    × (told.full ≡ list_any (stops_full c.room) behind)
stops-told c p s =
    let stops = parts-stop c.room (map part_from p.parts) (window_of s) (nothing (is_differing p.mark s.marks)) in
    (stops.gap, stops.far, stops.full)

pub repaired-told : {W : Type 0} (c : Config) (p : wire.Packet) (s : State W)
    → (told_of c p s).repaired ≡ most_repaired (answers_all c.room (map part_from p.parts) (window_of s))
repaired-told c p s =
    let stops = parts-stop c.room (map part_from p.parts) (window_of s) (nothing (is_differing p.mark s.marks)) in
    let most = stops.repaired in
    omega arith

-- ---- marks

differ-is : (x : ℕ × ℕ) (y : Mark) → differ (record { tick = x.0; sum = x.1 }) y ≡ true → (x.0 ≡ y.tick) × (x.1 ≢ y.sum)
differ-is x y e =
    let both = and_parts (x.0 == y.tick) (not (x.1 == y.sum)) e in
    let sums = both.1 in
    (eqb-true x.0 y.tick both.0, grind (arith, nat_tests))

is-differ : (x : ℕ × ℕ) (y : Mark) → x.0 ≡ y.tick → x.1 ≢ y.sum → differ (record { tick = x.0; sum = x.1 }) y ≡ true
is-differ x y same other =
    and_from (x.0 == y.tick) (not (x.1 == y.sum)) (eq-eqb x.0 y.tick same) (grind (arith, nat_tests))

another : (mark : Option (ℕ × ℕ)) (m : Marks) → (is_differing mark m ≡ true) ↔ IsAnother mark m.own
another None m = (λ e. absurd (cc), λ h. (let none = h.1 in absurd (cc)))
another (Some x) m = (
  λ e. (let at = Any-from_list_any (differ (record { tick = x.0; sum = x.1 })) m.own e in (x, refl, (at.0, at.1, at.2, at.3, differ-is x at.1 at.4))),
  λ h.
      let at = h.2 in
      let tick : x.0 ≡ h.0.0 = ap (λ (o : Option (ℕ × ℕ)). (unwrap_or o x).0) h.1 in
      let sum : x.1 ≡ h.0.1 = ap (λ (o : Option (ℕ × ℕ)). (unwrap_or o x).1) h.1 in
      list_any-from_Any (differ (record { tick = x.0; sum = x.1 })) m.own
      (at.0, at.1, at.2, at.3, is-differ x at.1 (tick ∙ at.4.0) (λ e. at.4.1 (sym sum ∙ e))),
)

pub differs-told : {W : Type 0} (c : Config) (p : wire.Packet) (s : State W) → ((told_of c p s).differs ≡ true) ↔ IsAnother p.mark s.marks.own
differs-told c p s =
    let stops = parts-stop c.room (map part_from p.parts) (window_of s) (nothing (is_differing p.mark s.marks)) in
    let both = another p.mark s.marks in
    (λ e. both.0 (sym stops.differs ∙ e), λ h. stops.differs ∙ both.1 h)
