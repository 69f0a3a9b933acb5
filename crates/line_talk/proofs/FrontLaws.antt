-- The front of a talk, and a talk behind it.
use Rattle.std.proofs.Common.{◌≡◌, ℕ, ◌≤◌, eqb, true, false, List, [], ◌∷◌, ◌++◌, length, length-append, Option, Some, None, inl, inr, arith, refl, sym, ap, subst, ◌∙◌, append_assoc, append-nil}
use Rattle.std.specs.Prelude.{option_to_list}
use Rattle.std.proofs.lemmas.Bool.{ne_eqb}
use Rattle.tss_io.specs.declared.limits.TheConstants.{LONGEST_LINE}
use Rattle.tss_io.specs.Lines.{Lines, torn, line, lines_of, as_line}
use Rattle.tss_io.proofs.Streams.{Yields-none}
use Rattle.line_talk.specs.declared.said.Said.{Said}
use Rattle.line_talk.specs.declared.said.Said.TheVariants.{Heard}
use Rattle.game_trait.specs.Run.{IsPrefix}
use Rattle.line_talk.specs.Hearing.{Answering, Hearing, hear, told_of}
use Rattle.line_talk.specs.Talk.{Notes, Course, silence, course, AnswersAtOnce, Shown, TellsAll, TellsFront, IsTorn, HeardFront, IsOpening, HearsOne, dues, IsWholeTalk, IsBrokenTalk, IsUnheard, IsTalkOn}
use Rattle.line_talk.proofs.TalkLaws.{Notes-none, course-append, at_once-append, joined}
use Rattle.line_talk.proofs.HearingLaws.{join, lines_of-append, some-same}
use Rattle.line_talk.proofs.WholeLaws.{whole-told, whole-broken}

-- nothing was heard
pub front-none : (side : Shown) → HeardFront side side []
unfolding course AnswersAtOnce
front-none side = record {
  talk = [];
  passed = record { left = Yields-none side.left; said = Notes-none side.said };
  at_once = λ due silent. tt;
  all_heard = refl;
}

-- more was heard, where no line had ended
pub front-more : (old mid new : Shown) (bytes : List ℕ) (one : Option ℕ) → IsTorn bytes → HeardFront old mid bytes → HearsOne mid new one → HeardFront old new (bytes ++ option_to_list one)
unfolding course AnswersAtOnce
front-more old mid new bytes one is f more =
    let told : (due : List ℕ → List ℕ) → ((x : List ℕ) → IsTorn x → due x ≡ []) → (course silence f.talk).told ≡ due (course silence f.talk).heard =
    λ due silent. ap (λ (d : Course). d.told) f.all_heard ∙ sym (silent bytes is) ∙ ap due (sym (ap (λ (d : Course). d.heard) f.all_heard)) in
    let flushed : (course silence f.talk).is_flushed ≡ true = ap (λ (d : Course). d.is_flushed) f.all_heard in
    let piece = option_to_list one in
    record {
      talk = f.talk ++ Heard piece ∷ [];
      passed = joined old mid new bytes piece f.talk (Heard piece ∷ []) f.passed (record { left = more.left; said = more.said });
      at_once = λ due silent. at_once-append due silence f.talk (Heard piece ∷ []) (f.at_once due silent) ((told due silent, flushed), tt);
      all_heard = course-append silence f.talk (Heard piece ∷ []) ∙ ap (λ (d : Course). record d { heard = d.heard ++ piece }) f.all_heard;
    }

-- nothing more was heard, at the end
pub front-end : (old mid new : Shown) (bytes : List ℕ) (one : Option ℕ) → one ≡ None → IsTorn bytes → HeardFront old mid bytes → HearsOne mid new one → HeardFront old new bytes
front-end old mid new bytes one none is f more =
    subst (λ (l : List ℕ). HeardFront old new l) (ap (λ (o : Option ℕ). bytes ++ option_to_list o) none ∙ append-nil bytes) (front-more old mid new bytes one is f more)

-- the same, where the peer shows the same
pub front-still : (old mid new : Shown) (bytes : List ℕ) → HeardFront old mid bytes → new.left ≡ mid.left → new.said ≡ mid.said → HeardFront old new bytes
front-still old mid new bytes f left said =
    let shows : mid ≡ new = λ k. record { left = sym left k; said = sym said k } in
    subst (λ (s : Shown). HeardFront old s bytes) shows f

-- no byte
pub torn-none : IsTorn []
unfolding lines_of
torn-none = refl

-- a byte that ends no line
pub torn-more : (bytes : List ℕ) (b : ℕ) → IsTorn bytes → (b ≡ 10 → ⊥) → IsTorn (bytes ++ b ∷ [])
unfolding lines_of join
torn-more bytes b is other =
    let no : eqb b 10 ≡ false = ne_eqb b 10 other in
    let one : lines_of (b ∷ []) ≡ torn (b ∷ []) = rw no refl in
    lines_of-append bytes (b ∷ []) ∙ rw (is, one) refl

-- of bytes in which no line ends nothing is due
pub torn-silent : {S : Type 0} (a : Answering S) (h : Hearing S) (x : List ℕ) → IsTorn x → dues a h x ≡ []
unfolding told_of
torn-silent a h x is = ap (told_of a h) is

-- ---- a talk behind its front

front-whole : {S : Type 0} (a : Answering S) (h : Hearing S) (old here : Shown) (front : List ℕ) → HeardFront old here front → IsWholeTalk (dues a h) old here front []
front-whole a h old here front f = record { talk = f.talk; passed = f.passed; at_once = f.at_once (dues a h) (torn-silent a h); all_told = f.all_heard }

-- all that is due of it was told
pub front-talked : {S : Type 0} (a : Answering S) (h : Hearing S) (old here new : Shown) (front : List ℕ) → new.left ≡ here.left
    → (talk : List Said) × Notes here.said talk new.said × TellsAll (dues a h front) talk → HeardFront old here front → IsWholeTalk (dues a h) old new front (dues a h front)
front-talked a h old here new front left told f = whole-told (dues a h) old here new front [] (dues a h front) (front-whole a h old here front f) left told

-- or a front of that
pub front-broken : {S : Type 0} (a : Answering S) (h : Hearing S) (old here new : Shown) (front : List ℕ) → new.left ≡ here.left → TellsFront (dues a h front) here.said new.said
    → HeardFront old here front → (t : IsBrokenTalk a h old new) × (t.bytes ≡ front)
front-broken a h old here new front left told f =
    (record { bytes = front; talk = whole-broken (dues a h) old here new front [] (dues a h front) (front-whole a h old here front f) left told }, refl)

front-of_itself : (front : List ℕ) → IsPrefix front front
front-of_itself front = ([], sym (append-nil front))

pub talk-front : {S : Type 0} (a : Answering S) (h i : Hearing S) (here new old : Shown) (front : List ℕ) → i ≡ hear a h (lines_of front) → new.left ≡ here.left
    → (talk : List Said) × Notes here.said talk new.said × TellsAll (dues a h front) talk → HeardFront old here front → IsTalkOn front a h i old new (length front)
talk-front a h i here new old front led left told f =
    let t = front-talked a h old here new front left told f in
    (record { bytes = front; talk = t.talk; passed = t.passed; counted = refl; led = led; at_once = t.at_once; all_told = t.all_told }, front-of_itself front)

pub broken-front : {S : Type 0} (a : Answering S) (h : Hearing S) (here new old : Shown) (front : List ℕ) → new.left ≡ here.left → TellsFront (dues a h front) here.said new.said
    → HeardFront old here front → (t : IsBrokenTalk a h old new) × IsPrefix front t.bytes
broken-front a h here new old front left told f =
    let t = front-broken a h old here new front left told f in
    (t.0, ([], t.1 ∙ sym (append-nil front)))

-- hearing failed behind bytes in which no line ends
pub front-unheard : {S : Type 0} (a : Answering S) (h : Hearing S) (old new : Shown) (bytes : List ℕ) → IsTorn bytes → HeardFront old new bytes → (t : IsUnheard a h old new) × (t.bytes ≡ bytes)
front-unheard a h old new bytes is f = (
  record { bytes = bytes; talk = subst (λ (l : List ℕ). IsWholeTalk (dues a h) old new bytes l) (sym (torn-silent a h bytes is)) (front-whole a h old new bytes f) },
  refl,
)

-- ---- what a front says of the first line

-- the first line of lines, where one ended
first-line : Lines → Option (List ℕ)
first-line (torn bytes) = None
first-line (line l rest) = Some l

line-first : (l rest : List ℕ) → IsTorn l → first-line (lines_of (as_line l ++ rest)) ≡ Some l
unfolding first-line lines_of join
line-first l rest is =
    ap (λ (bytes : List ℕ). first-line (lines_of bytes)) (append_assoc l (10 ∷ []) rest) ∙ ap first-line (lines_of-append l (10 ∷ rest)) ∙ ap (λ (ls : Lines). first-line (join ls (line [] (lines_of rest)))) is
    ∙ ap (λ (k : List ℕ). Some k) (append-nil l)

-- behind bytes in which no line ends the first line begins with them
torn-first : (bytes : List ℕ) (lines : Lines) (l : List ℕ) → first-line (join (torn bytes) lines) ≡ Some l → length bytes ≤ length l
unfolding first-line join
torn-first bytes (torn more) l is = absurd cc
torn-first bytes (line k rest) l is =
    let same : bytes ++ k ≡ l = some-same is in
    let counted = length-append bytes k in
    let whole : length (bytes ++ k) ≡ length l = ap length same in
    omega (arith, counted, whole)

torn-on : (bytes more l : List ℕ) → IsTorn bytes → first-line (lines_of (bytes ++ more)) ≡ Some l → length bytes ≤ length l
torn-on bytes more l is first = torn-first bytes (lines_of more) l (ap (λ (ls : Lines). first-line (join ls (lines_of more))) (sym is) ∙ ap first-line (sym (lines_of-append bytes more)) ∙ first)

-- a text that begins with this line begins with it
head-first : (head bytes : List ℕ) → IsTorn head → IsPrefix (as_line head) bytes → first-line (lines_of bytes) ≡ Some head
head-first head bytes one front = ap (λ (l : List ℕ). first-line (lines_of l)) front.1 ∙ line-first head front.0 one

pub torn-no_head : (head bytes : List ℕ) → IsTorn head → IsTorn bytes → IsPrefix (as_line head) bytes → ⊥
unfolding first-line
torn-no_head head bytes one is front =
    let none : first-line (lines_of bytes) ≡ None = ap first-line is in
    let some = head-first head bytes one front in
    absurd cc

pub front-is_head : (head front bytes : List ℕ) → IsTorn head → length head ≤ LONGEST_LINE → IsOpening front → IsPrefix front bytes → IsPrefix (as_line head) bytes → front ≡ as_line head
front-is_head head front bytes one short (inl opening) is begins =
    let there = ap (λ (l : List ℕ). first-line (lines_of l)) (is.1 ∙ ap (λ (l : List ℕ). l ++ is.0) opening.1) ∙ line-first opening.0 is.0 opening.2 in
    let same : opening.0 ≡ head = some-same (sym there ∙ head-first head bytes one begins) in
    opening.1 ∙ ap as_line same
front-is_head head front bytes one short (inr opening) is begins =
    let first = ap (λ (l : List ℕ). first-line (lines_of l)) (sym is.1) ∙ head-first head bytes one begins in
    let longer = torn-on front is.0 head opening.0 first in
    let counted = opening.1 in
    absurd (omega (arith, longer, counted, short))
