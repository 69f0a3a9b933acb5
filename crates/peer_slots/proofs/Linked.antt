-- What is known of other peers as functions of the slot, where a list of them changes.
use Rattle.std.proofs.Common.{◌≡◌, ℕ, zero, suc, ◌<◌, ◌≤◌, Bool, max, ◌==◌, Option, Some, None, List, [], ◌∷◌, ◌-◌, map, length, get_or, replicate, refl, ap, sym, ◌∙◌, arith}
use Rattle.std.specs.Prelude.{slice_set}
use Rattle.std.proofs.lemmas.List.{length-replicate, get_or_default, length-set, length-map}
use Rattle.game_trait.specs.Count.{times}
use Rattle.peer_model.specs.declared.mark.Mark.{Mark}
use Rattle.peer_model.specs.Marks.{Marks, if_differs, seen}
use Rattle.peer_model.specs.Peer.{put}
use Rattle.peer_packet.specs.declared.cursor.Cursor.{Cursor}
use Rattle.peer_packet.specs.Filling.{at_start}
use Rattle.peer_packet.specs.Packet as wire
use Rattle.peer_calls.specs.declared.newest.Newest.{Newest}
use Rattle.peer_calls.specs.Hearing.{newer, is_differing, hears_if_marked}
use Rattle.peer_calls.specs.Sending.{newest_mark}
use Rattle.peer_slots.specs.declared.other.Other.{Other}
use Rattle.peer_slots.specs.Links.{unheard, links_of, new_links, links_heard, with_cursor, differing, mark_heard, differs_heard, told_mark}
use Rattle.peer_slots.proofs.Slots.{alike, at-cond, field-put, field-kept, map-at, times-read}

-- ---- before anything was heard

abbrev fresh : Other
fresh = record { known = replicate 64 0; newest = None; cursor = at_start; mark = None; differs = None }

abbrev none : ℕ
none = 0

zeroes : (n o : ℕ) → get_or (replicate n none) o none ≡ none
zeroes zero o = refl
zeroes (suc n) zero = refl
zeroes (suc n) (suc o) = zeroes n o

pub links-new : (slots : ℕ) → links_of (record { others = replicate slots fresh; own = [] }) ≡ new_links slots
links-new slots = λ i. record {
  slots = length-replicate slots fresh i;
  known = λ j o. alike (λ (x : Other). get_or x.known o 0) slots j fresh unheard (zeroes 64 o) i;
  newest = λ j. alike (λ (x : Other). x.newest) slots j fresh unheard refl i;
  cursor = λ j. alike (λ (x : Other). x.cursor) slots j fresh unheard refl i;
  marks = record {
    own = [];
    newest = λ j. alike (λ (x : Other). x.mark) slots j fresh unheard refl i;
    differs = λ j. alike (λ (x : Other). x.differs) slots j fresh unheard refl i;
  };
}

-- ---- a cursor

pub links-cursor : (others : List Other) (own : List Mark) (at : ℕ) (y : Other) (c : Cursor) → at < length others → y ≡ get_or others at y
    → links_of (record { others = slice_set others at (record y { cursor = c }); own = own }) ≡ with_cursor at c (links_of (record { others = others; own = own }))
links-cursor others own at y c there is =
    let z : Other = record y { cursor = c } in
    let old : y ≡ get_or others at unheard = is ∙ get_or_default others at y unheard there in
    λ i. record {
      slots = length-set others at z i;
      known = λ j o. field-kept (λ (x : Other). get_or x.known o 0) others at j z unheard there (ap (λ (x : Other). get_or x.known o 0) old) i;
      newest = λ j. field-kept (λ (x : Other). x.newest) others at j z unheard there (ap (λ (x : Other). x.newest) old) i;
      cursor = λ j. field-put (λ (x : Other). x.cursor) others at j z unheard there i;
      marks = record {
        own = own;
        newest = λ j. field-kept (λ (x : Other). x.mark) others at j z unheard there (ap (λ (x : Other). x.mark) old) i;
        differs = λ j. field-kept (λ (x : Other). x.differs) others at j z unheard there (ap (λ (x : Other). x.differs) old) i;
      };
    }

-- ---- a mark

-- no one is told of slots that there aren't
pub links-marks : (x : Mark) (others : List Other) (own marks : List Mark) →
    links_of (record { others = map (told_mark x) others; own = marks })
    ≡ (let l = links_of (record { others = others; own = own }) in record l {
      marks = record l.marks {
        own = marks;
        differs = λ j. seen (if_differs x (l.marks.newest j)) x.tick (l.marks.differs j);
      };
    })
links-marks x others own marks =
    let at : (j : ℕ) → get_or (map (told_mark x) others) j unheard ≡ told_mark x (get_or others j unheard) = λ j. map-at (told_mark x) others j unheard unheard refl in
    λ i. record {
      slots = length-map others (told_mark x) i;
      known = λ j o. get_or (at j i).known o 0;
      newest = λ j. (at j i).newest;
      cursor = λ j. (at j i).cursor;
      marks = record { own = marks; newest = λ j. (at j i).mark; differs = λ j. (at j i).differs };
    }

pub links-differing : (x : Mark) (others : List Other) (own : List Mark) → times (λ other. if_differs x other.mark) others ≡ differing x (links_of (record { others = others; own = own }))
links-differing x others own = sym (times-read (λ (other : Other). if_differs x other.mark) others unheard)

-- ---- a head

abbrev marks_at : List Other → List Mark → Marks
marks_at others own = (links_of (record { others = others; own = own })).marks

marks-heard : (m : Option (ℕ × ℕ)) (others : List Other) (own : List Mark) (at : ℕ) (z : Other) → at < length others
    → z.mark ≡ mark_heard m (get_or others at unheard).mark
    → z.differs ≡ differs_heard (is_differing m (marks_at others own)) m (get_or others at unheard).differs
    → marks_at (slice_set others at z) own ≡ hears_if_marked at m (marks_at others own)
marks-heard None others own at z there mark differs = λ i. record {
  own = own;
  newest = λ j. field-kept (λ (x : Other). x.mark) others at j z unheard there mark i;
  differs = λ j. field-kept (λ (x : Other). x.differs) others at j z unheard there differs i;
}
marks-heard (Some x) others own at z there mark differs = λ i. record {
  own = own;
  newest = λ j. (field-put (λ (x : Other). x.mark) others at j z unheard there ∙ ap (λ (y : Option Mark). put at y (marks_at others own).newest j) mark) i;
  differs = λ j. (field-put (λ (x : Other). x.differs) others at j z unheard there ∙ ap (λ (y : Option ℕ). put at y (marks_at others own).differs j) differs) i;
}

at-put : (at j o : ℕ) (f : ℕ → ℕ) (g : ℕ → ℕ → ℕ) → put at (f o) (λ k. g k o) j ≡ put at f g j o
at-put at j o f g = sym (at-cond (λ (h : ℕ → ℕ). h o) (j == at) f (g j))

-- what a head leaves of the peer whose packet it is
pub record HearsHead (p : wire.Packet) (clock : ℕ) (is : Bool) (y z : Other) : Type 0 where
  pub known : (o : ℕ) → get_or z.known o 0 ≡ max (get_or y.known o 0) (get_or p.have o 0)
  pub newest : z.newest ≡ newer p.clock p.echo clock y.newest
  pub cursor : z.cursor ≡ y.cursor
  pub mark : z.mark ≡ mark_heard p.mark y.mark
  pub differs : z.differs ≡ differs_heard is p.mark y.differs

pub links-head : (p : wire.Packet) (clock : ℕ) (others : List Other) (own : List Mark) (at : ℕ) (is : Bool) (y z : Other)
    → at ≡ p.from → p.from < length others → y ≡ get_or others at y → is ≡ is_differing p.mark (marks_at others own) → HearsHead p clock is y z
    → links_of (record { others = slice_set others at z; own = own }) ≡ links_heard p clock (links_of (record { others = others; own = own }))
links-head p clock others own at is y z here there read differs h =
    let l = links_of (record { others = others; own = own }) in
    let within : at < length others = omega arith in
    let old : y ≡ get_or others at unheard = read ∙ get_or_default others at y unheard within in
    let marks = marks-heard p.mark others own at z within
    (h.mark ∙ ap (λ (x : Other). mark_heard p.mark x.mark) old)
    (h.differs ∙ (λ i. differs_heard (differs i) p.mark (old i).differs)) in
    let from : links_of (record { others = slice_set others at z; own = own })
    ≡ record l {
      known = put at (λ o. max (l.known at o) (get_or p.have o 0)) l.known;
      newest = put at (newer p.clock p.echo clock (l.newest at)) l.newest;
      marks = hears_if_marked at p.mark l.marks;
    } = λ i. record {
      slots = length-set others at z i;
      known = λ j o. (field-put (λ (x : Other). get_or x.known o 0) others at j z unheard within
          ∙ ap (λ (n : ℕ). put at n (λ k. l.known k o) j) (h.known o ∙ ap (λ (x : Other). max (get_or x.known o 0) (get_or p.have o 0)) old)
          ∙ at-put at j o (λ o. max (l.known at o) (get_or p.have o 0)) l.known) i;
      newest = λ j. (field-put (λ (x : Other). x.newest) others at j z unheard within
          ∙ ap (λ (n : Option Newest). put at n l.newest j) (h.newest ∙ ap (λ (x : Other). newer p.clock p.echo clock x.newest) old)) i;
      cursor = λ j. field-kept (λ (x : Other). x.cursor) others at j z unheard within (h.cursor ∙ ap (λ (x : Other). x.cursor) old) i;
      marks = marks i;
    } in
    from ∙ ap (λ (n : ℕ). record l {
      known = put n (λ o. max (l.known n o) (get_or p.have o 0)) l.known;
      newest = put n (newer p.clock p.echo clock (l.newest n)) l.newest;
      marks = hears_if_marked n p.mark l.marks;
    }) here

-- ---- the newest own mark

pub newest-none : (xs : List Mark) → length xs ≤ 0 → None ≡ newest_mark xs
unfolding newest_mark
newest-none [] none = refl
newest-none (x ∷ xs) none = absurd (omega arith)

pub newest-at : (xs : List Mark) (d : Mark) → 0 < length xs → Some ((get_or xs (length xs - 1) d).tick, (get_or xs (length xs - 1) d).sum) ≡ newest_mark xs
unfolding newest_mark
newest-at [] d some = absurd (omega arith)
newest-at (x ∷ []) d some = refl
newest-at (x ∷ y ∷ ys) d some =
    let e : suc (suc (length ys)) - 1 ≡ suc (suc (length ys) - 1) = omega arith in
    ap (λ (k : ℕ). Some ((get_or (x ∷ y ∷ ys) k d).tick, (get_or (x ∷ y ∷ ys) k d).sum)) e ∙ newest-at (y ∷ ys) d (omega arith)
