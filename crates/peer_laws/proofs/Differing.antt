-- The first tick at which another's mark was seen to differ.
use Rattle.std.proofs.Common.{◌≡◌, ap, sym, subst, ℕ, Bool, true, false, cond, Option, Some, None, map, refl}
use Rattle.std.specs.Prelude.{unwrap_or}
use Rattle.std.proofs.lemmas.Bool.{eq-eqb}
use Rattle.rolling_mirror.specs.Rolling.{last_tick}
use Rattle.peer_model.specs.Peer.{put}
use Rattle.peer_model.specs.declared.mark.Mark.{Mark}
use Rattle.peer_model.specs.Marks.{Marks, if_differs, seen, is_marked, marked}
use Rattle.peer_packet.specs.Packet as wire
use Rattle.peer_calls.specs.declared.config.Config.{Config}
use Rattle.peer_calls.specs.State.{State, window_of}
use Rattle.peer_calls.specs.Wire.{part_from}
use Rattle.peer_calls.specs.Hearing.{hears_if_marked, is_differing, hears_packet, told_of}
use Rattle.peer_calls.specs.Moving.{after_mark}
use Rattle.peer_laws.specs.Marked.{SeesFirst}
use Rattle.peer_laws.proofs.Hearing.{parts-stop}
use Rattle.peer_laws.proofs.Heard.{nothing}

sees : (is : Bool) (t : ℕ) (old : Option ℕ) → SeesFirst is t old (seen is t old)
sees true t None = refl
sees true t (Some u) = refl
sees false t None = refl
sees false t (Some u) = refl

own-put : (j : ℕ) (x : Option ℕ) (f : ℕ → Option ℕ) → put j x f j ≡ x
own-put j x f = ap (λ (b : Bool). cond b x (f j)) (eq-eqb j j refl)

head-sees : (from : ℕ) (mark : Option (ℕ × ℕ)) (x : ℕ × ℕ) (m : Marks) → mark ≡ Some x
    → SeesFirst (is_differing mark m) x.0 (m.differs from) ((hears_if_marked from mark m).differs from)
head-sees from None x m e = absurd (cc)
head-sees from (Some y) x m e =
    let tick : y.0 ≡ x.0 = ap (λ (o : Option (ℕ × ℕ)). (unwrap_or o y).0) e in
    let new = seen (is_differing (Some y) m) y.0 (m.differs from) in
    subst (λ (t : ℕ). SeesFirst (is_differing (Some y) m) t (m.differs from) (put from new m.differs from)) tick
    (subst (λ (o : Option ℕ). SeesFirst (is_differing (Some y) m) y.0 (m.differs from) o) (sym (own-put from new m.differs)) (sees (is_differing (Some y) m) y.0 (m.differs from)))

pub heard-sees : {W : Type 0} (c : Config) (p : wire.Packet) (s : State W) (x : ℕ × ℕ) → p.mark ≡ Some x
    → SeesFirst (told_of c p s).differs x.0 (s.marks.differs p.from) ((hears_packet c p s).marks.differs p.from)
heard-sees c p s x e =
    let stops = parts-stop c.room (map part_from p.parts) (window_of s) (nothing (is_differing p.mark s.marks)) in
    subst (λ (b : Bool). SeesFirst b x.0 (s.marks.differs p.from) ((hears_packet c p s).marks.differs p.from)) (sym stops.differs) (head-sees p.from p.mark x s.marks e)

made-if : {W : Type 0} (b : Bool) (x : Mark) (j : ℕ) (s : State W) → b ≡ false
    → SeesFirst (if_differs x (s.marks.newest j)) x.tick (s.marks.differs j) ((cond b s (record s { marks = marked x s.marks })).marks.differs j)
made-if true x j s e = absurd (cc)
made-if false x j s e = sees (if_differs x (s.marks.newest j)) x.tick (s.marks.differs j)

pub made-sees : {W : Type 0} (sum j : ℕ) (s : State W) → is_marked (last_tick s.roll) s.marks ≡ false
    → SeesFirst (if_differs (record { tick = last_tick s.roll; sum = sum }) (s.marks.newest j)) (last_tick s.roll) (s.marks.differs j) ((after_mark sum s).marks.differs j)
made-sees sum j s e =
    made-if (is_marked (last_tick s.roll) s.marks) (record { tick = last_tick s.roll; sum = sum }) j s e
