-- How a run ends, by how its talk did.
use Rattle.std.proofs.Common.{◌≡◌, ℕ, true, false, List, [], ◌++◌, Option, Some, None, inl, inr, refl, sym, ap, subst, ◌∙◌, append_assoc, append-nil, arith}
use Rattle.std.specs.Prelude.{IfSome, bytes_eq}
use Rattle.std.proofs.lemmas.Slice.Eq.{bytes_eq-Decides}
use Rattle.tss_io.specs.Lines.{as_line, lines_of}
use Rattle.tss_io.specs.Streams.{Rose, Yields}
use Rattle.line_talk.specs.declared.course.TalkFault.{TalkFault}
use Rattle.line_talk.specs.declared.course.TalkFault.TheVariants as faults
use Rattle.game_trait.specs.Run.{IsPrefix}
use Rattle.line_talk.specs.Hearing.{Answering, Hearing, fresh}
use Rattle.line_talk.specs.Talk.{HeardTorn, IsTorn, IsOpening, IsAnswered, IsPast, IsBrokenWhole, IsUnheard}
use Rattle.line_talk.proofs.FrontLaws.{front-is_head, torn-no_head, front-unheard}
use Rattle.live_talk.specs.declared.fed.Fed.{Fed}
use Rattle.live_talk.specs.Staging.{Staging}
use Rattle.endless_mirror.specs.Way.{first_line}
use Rattle.tss_mirror.specs.declared.done.Status.{Status}
use Rattle.tss_mirror.specs.declared.done.Status.TheVariants.{Refusal, ReadFault}
use Rattle.tss_mirror.specs.Run.{Side, too_long_text, status_at, status_of, EndsAs, answered, past, unheard, untold, no_memory, IsEndless, EndsMatch, EndsSession, EndsTalk}

-- ---- how a talk ends

pub ends-answered : {S : Type 0} (way : Answering S) (start : S) (fed : S → Fed) (limit : ℕ) (such : List ℕ → Type 0) (h i : Hearing S) (old new : Side) (status : Status) → h ≡ fresh start
    → (t : IsAnswered way h i old.shown new.shown limit) × such t.bytes → status ≡ status_at (fed i.state) → new.faults ≡ old.faults → EndsAs way start fed limit such old new status
ends-answered {S = S} way start fed limit such h i old new status from t is steady =
    by-start (subst (λ (k : Hearing S). (t : IsAnswered way k i old.shown new.shown limit) × such t.bytes) from t)
  where
    by-start : (t : IsAnswered way (fresh start) i old.shown new.shown limit) × such t.bytes → EndsAs way start fed limit such old new status
    by-start t = answered i t.0 t.1 is steady

pub ends-past : {S : Type 0} (way : Answering S) (start : S) (fed : S → Fed) (limit : ℕ) (such : List ℕ → Type 0) (h : Hearing S) (text : List ℕ) (old new : Side) → h ≡ fresh start → text ≡ too_long_text
    → (t : IsPast way h old.shown new.shown limit text) × such (t.front ++ t.one) → new.faults ≡ old.faults → EndsAs way start fed limit such old new Refusal
ends-past {S = S} way start fed limit such h text old new from told t steady =
    by-start (subst (λ (l : List ℕ). (t : IsPast way (fresh start) old.shown new.shown limit l) × such (t.front ++ t.one)) told
    (subst (λ (k : Hearing S). (t : IsPast way k old.shown new.shown limit text) × such (t.front ++ t.one)) from t))
  where
    by-start : (t : IsPast way (fresh start) old.shown new.shown limit too_long_text) × such (t.front ++ t.one) → EndsAs way start fed limit such old new Refusal
    by-start t = past t.0 t.1 refl steady

pub ends-broken : {S : Type 0} (way : Answering S) (start : S) (fed : S → Fed) (limit : ℕ) (such : List ℕ → Type 0) (h : Hearing S) (text : List ℕ) (old new : Side) (fault : TalkFault) (status : Status)
    → h ≡ fresh start → text ≡ too_long_text → status ≡ status_of fault → (t : IsBrokenWhole way h old.shown new.shown limit text) × such t.bytes
    → (fault ≡ faults.NotHeard → (t : IsUnheard way h old.shown new.shown) × such t.bytes) → (fault ≡ faults.NotHeard → Rose old.faults new.faults)
    → (fault ≡ faults.NotTold → Rose old.faults new.faults) → EndsAs way start fed limit such old new status
ends-broken {S = S} way start fed limit such h text old new fault status from told same is silent heard_not told_not =
    by-fault fault same
    (subst (λ (l : List ℕ). (t : IsBrokenWhole way (fresh start) old.shown new.shown limit l) × such t.bytes) told
    (subst (λ (k : Hearing S). (t : IsBrokenWhole way k old.shown new.shown limit text) × such t.bytes) from is))
    (λ e. subst (λ (k : Hearing S). (t : IsUnheard way k old.shown new.shown) × such t.bytes) from (silent e)) heard_not told_not
  where
    by-fault : (fault : TalkFault) → status ≡ status_of fault → (t : IsBrokenWhole way (fresh start) old.shown new.shown limit too_long_text) × such t.bytes
        → (fault ≡ faults.NotHeard → (t : IsUnheard way (fresh start) old.shown new.shown) × such t.bytes) → (fault ≡ faults.NotHeard → Rose old.faults new.faults)
        → (fault ≡ faults.NotTold → Rose old.faults new.faults) → EndsAs way start fed limit such old new status
    by-fault faults.NotHeard same t silent heard_not told_not = let u = silent refl in unheard u.0 u.1 same (heard_not refl)
    by-fault faults.NotTold same t silent heard_not told_not = untold t.0 t.1 same (told_not refl)
    by-fault faults.NoMemory same t silent heard_not told_not = no_memory t.0 t.1 same

-- a count that rose behind calls that left it
pub rose-from : (old mid new : ℕ) → mid ≡ old → Rose mid new → Rose old new
rose-from old mid new same rose = subst (λ (n : ℕ). Rose n new) same rose

-- what holds of all bytes that were heard
ends-such : {S : Type 0} (way : Answering S) (start : S) (fed : S → Fed) (limit : ℕ) (such is_such : List ℕ → Type 0) (old new : Side) (status : Status) → ((bytes : List ℕ) → such bytes → is_such bytes)
    → EndsAs way start fed limit such old new status → EndsAs way start fed limit is_such old new status
ends-such way start fed limit such is_such old new status follows (answered last talk is ends steady) = answered last talk (follows talk.bytes is) ends steady
ends-such way start fed limit such is_such old new status follows (past talk is ends steady) = past talk (follows (talk.front ++ talk.one) is) ends steady
ends-such way start fed limit such is_such old new status follows (unheard talk is ends rose) = unheard talk (follows talk.bytes is) ends rose
ends-such way start fed limit such is_such old new status follows (untold talk is ends rose) = untold talk (follows talk.bytes is) ends rose
ends-such way start fed limit such is_such old new status follows (no_memory talk is ends) = no_memory talk (follows talk.bytes is) ends

-- the same from a start that is told
pub ends-from : {S : Type 0} (way : Answering S) (start here : S) (fed : S → Fed) (limit : ℕ) (such is_such : List ℕ → Type 0) (old new : Side) (status : Status) → here ≡ start
    → ((bytes : List ℕ) → such bytes → is_such bytes) → EndsAs way here fed limit such old new status → EndsAs way start fed limit is_such old new status
ends-from {S = S} way start here fed limit such is_such old new status same follows ends =
    ends-such way start fed limit such is_such old new status follows (subst (λ (s : S). EndsAs way s fed limit such old new status) same ends)

-- hearing failed in the first line
pub ends-unheard : {S : Type 0} (way : Answering S) (start : S) (fed : S → Fed) (limit : ℕ) (is_such : List ℕ → Type 0) (old new : Side) → HeardTorn old.shown new.shown
    → ((bytes : List ℕ) → IsTorn bytes → is_such bytes) → Rose old.faults new.faults → EndsAs way start fed limit is_such old new ReadFault
ends-unheard way start fed limit is_such old new t follows rose =
    let u = front-unheard way (fresh start) old.shown new.shown t.0 t.1 t.2 in
    unheard u.0 (subst is_such (sym u.1) (follows t.0 t.1)) refl rose

-- ---- what the first line says

one-line : IsTorn first_line
unfolding lines_of
one-line = refl

-- the front is the head
pub heads : (front bytes : List ℕ) → true ≡ bytes_eq front (as_line first_line) → IsPrefix front bytes → IsEndless bytes
heads front bytes same f = (f.0, f.1 ∙ ap (λ (l : List ℕ). l ++ f.0) ((bytes_eq-Decides front (as_line first_line)).0 (sym same)))

-- it isn't
pub heads-not : (front bytes : List ℕ) → false ≡ bytes_eq front (as_line first_line) → IsOpening front → IsPrefix front bytes → IsEndless bytes → ⊥
heads-not front bytes other opening f endless =
    let same = front-is_head first_line front bytes one-line (omega arith) opening f endless in
    let no : false ≡ true = other ∙ (bytes_eq-Decides front (as_line first_line)).1 same in
    absurd cc

-- no line ended
pub torn-not : (bytes : List ℕ) → IsTorn bytes → IsEndless bytes → ⊥
torn-not bytes is endless = torn-no_head first_line bytes one-line is endless

-- ---- a text that doesn't begin with the head

-- what stands in front of what was heard stands in front of all that there was to hear
heard-before : (left new : Option (List ℕ)) (bytes heard : List ℕ) → left ≡ Some bytes → Yields left heard new → IsPrefix heard bytes
heard-before (Some old) (Some new) bytes heard is yields = (new, subst (λ (o : Option (List ℕ)). IfSome o (λ l. l ≡ heard ++ new)) is yields)
heard-before (Some old) None bytes heard is yields = absurd yields
heard-before None new bytes heard is yields = absurd cc

not-endless : (left new : Option (List ℕ)) (bytes heard : List ℕ) → left ≡ Some bytes → (IsEndless bytes → ⊥) → Yields left heard new → IsEndless heard → ⊥
not-endless left new bytes heard is other yields front =
    let whole = heard-before left new bytes heard is yields in
    other (front.0 ++ whole.0, whole.1 ∙ ap (λ (l : List ℕ). l ++ whole.0) front.1 ∙ append_assoc (as_line first_line) front.0 whole.0)

never-session : {W : Type 0} (g : Staging W) (number : ℕ) (old new : Side) (status : Status) (bytes : List ℕ) → old.shown.left ≡ Some bytes → (IsEndless bytes → ⊥) → EndsSession g number old new status → ⊥
never-session g number old new status bytes is other (answered last talk such ends steady) = not-endless _ _ bytes _ is other talk.talk.passed.left such
never-session g number old new status bytes is other (past talk such ends steady) = not-endless _ _ bytes _ is other talk.talk.passed.left such
never-session g number old new status bytes is other (unheard talk such ends rose) = not-endless _ _ bytes _ is other talk.talk.passed.left such
never-session g number old new status bytes is other (untold talk such ends rose) = not-endless _ _ bytes _ is other talk.talk.passed.left such
never-session g number old new status bytes is other (no_memory talk such ends) = not-endless _ _ bytes _ is other talk.talk.passed.left such

pub match-heard : {W : Type 0} (g : Staging W) (number : ℕ) (old new : Side) (status : Status) (bytes : List ℕ) → old.shown.left ≡ Some bytes → (IsEndless bytes → ⊥) → EndsTalk g number old new status → EndsMatch g number old new status
match-heard g number old new status bytes is other (inl ends) = ends
match-heard g number old new status bytes is other (inr ends) = absurd (never-session g number old new status bytes is other ends)

-- ---- a text that does, of which all was heard

heard-all : (left new : Option (List ℕ)) (bytes heard : List ℕ) → left ≡ Some bytes → new ≡ Some [] → Yields left heard new → bytes ≡ heard
heard-all left new bytes heard is none yields =
    let there : Yields (Some bytes) heard (Some []) = subst (λ (o : Option (List ℕ)). Yields o heard (Some [])) is (subst (λ (o : Option (List ℕ)). Yields left heard o) none yields) in
    there ∙ append-nil heard

is-endless : (left new : Option (List ℕ)) (bytes heard : List ℕ) → left ≡ Some bytes → new ≡ Some [] → IsEndless bytes → Yields left heard new → IsEndless heard
is-endless left new bytes heard is none endless yields = subst (λ (l : List ℕ). IsEndless l) (heard-all left new bytes heard is none yields) endless

never-match : {W : Type 0} (g : Staging W) (number : ℕ) (old new : Side) (status : Status) (bytes : List ℕ) → old.shown.left ≡ Some bytes → new.shown.left ≡ Some [] → IsEndless bytes → EndsMatch g number old new status → ⊥
never-match g number old new status bytes is none endless (answered last talk such ends steady) = such (is-endless _ _ bytes _ is none endless talk.talk.passed.left)
never-match g number old new status bytes is none endless (past talk such ends steady) = such (is-endless _ _ bytes _ is none endless talk.talk.passed.left)
never-match g number old new status bytes is none endless (unheard talk such ends rose) = such (is-endless _ _ bytes _ is none endless talk.talk.passed.left)
never-match g number old new status bytes is none endless (untold talk such ends rose) = such (is-endless _ _ bytes _ is none endless talk.talk.passed.left)
never-match g number old new status bytes is none endless (no_memory talk such ends) = such (is-endless _ _ bytes _ is none endless talk.talk.passed.left)

pub session-heard : {W : Type 0} (g : Staging W) (number : ℕ) (old new : Side) (status : Status) (bytes : List ℕ) → old.shown.left ≡ Some bytes → new.shown.left ≡ Some [] → IsEndless bytes → EndsTalk g number old new status
    → EndsSession g number old new status
session-heard g number old new status bytes is none endless (inl ends) = absurd (never-match g number old new status bytes is none endless ends)
session-heard g number old new status bytes is none endless (inr ends) = ends
