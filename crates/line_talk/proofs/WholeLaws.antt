-- A whole talk: what comes behind the lines.
use Rattle.std.proofs.Common.{◌≡◌, ℕ, ◌≤◌, true, false, List, [], ◌∷◌, ◌++◌, length, take, drop, Option, Some, None, Result, Ok, Err, inl, inr, refl, sym, ap, subst, ◌∙◌, append_assoc, append-nil, length-append, ◌+◌, arith}
use Rattle.std.specs.Prelude.{IfSome, IfOk, OnOk, OnErr, option_to_list}
use Rattle.std.proofs.lemmas.List.{take-append-drop}
use Rattle.tss_io.specs.Lines.{lines_of}
use Rattle.tss_io.specs.Streams.{Yields}
use Rattle.line_talk.specs.declared.said.Said.{Said}
use Rattle.line_talk.specs.declared.said.Said.TheVariants.{Heard}
use Rattle.game_trait.specs.Run.{IsPrefix}
use Rattle.line_talk.specs.Hearing.{Answering, Hearing, hear, close, told_at_close}
use Rattle.line_talk.specs.Talk.{Notes, Course, silence, course, AnswersAtOnce, Shown, TellsAll, TellsFront, dues, IsTalk, IsTalkOn, IsBrokenTalk, IsWholeTalk, IsPrefixTalk, IsAnswered, IsPast, at_end, past, IsBrokenWhole, IsUnheard, HearsOne}
use Rattle.line_talk.proofs.TalkLaws.{course-append, at_once-append, joined, told_on, front-longer}

-- where two facts hold on Ok, what follows from them holds of what is there
pub when-ok : {T E A B : Type 0} (r : Result T E) (C : T → Type 0) → OnOk r A → OnOk r B → (A → B → (t : T) → C t) → IfOk r C
when-ok (Ok t) C a b f = f a b t
when-ok (Err e) C a b f = tt

pub when-err : {T E A B : Type 0} (r : Result T E) → OnErr r A → (A → B) → OnErr r B
when-err (Ok t) a f = tt
when-err (Err e) a f = f a

pub when-done : {T E A B C : Type 0} (r : Result T E) → OnOk r A → OnOk r B → (A → B → C) → OnOk r C
when-done (Ok t) a b f = f a b
when-done (Err e) a b f = tt

-- a talk so far, as a whole
pub talk-whole : {S : Type 0} (a : Answering S) (h i : Hearing S) (old new : Shown) (n : ℕ) (t : IsTalk a h i old new n) → IsWholeTalk (dues a h) old new t.bytes (dues a h t.bytes)
talk-whole a h i old new n t = record { talk = t.talk; passed = t.passed; at_once = t.at_once; all_told = t.all_told }

-- then this text was told and flushed
pub whole-told : (due : List ℕ → List ℕ) (old mid new : Shown) (bytes text more : List ℕ) → IsWholeTalk due old mid bytes text → new.left ≡ mid.left
    → (talk : List Said) × Notes mid.said talk new.said × TellsAll more talk → IsWholeTalk due old new bytes (text ++ more)
whole-told due old mid new bytes text more t left told = record {
  talk = t.talk ++ told.0;
  passed = told_on old mid new bytes t.talk told.0 t.passed left told.1;
  at_once = at_once-append due silence t.talk told.0 t.at_once (told.2.at_once due (course silence t.talk));
  all_told = course-append silence t.talk told.0 ∙ told.2.leads (course silence t.talk)
      ∙ (λ k. record { heard = (t.all_told k).heard; told = (t.all_told k).told ++ more; is_flushed = true });
}

-- or so much of it
pub whole-broken : (due : List ℕ → List ℕ) (old mid new : Shown) (bytes text more : List ℕ) → IsWholeTalk due old mid bytes text → new.left ≡ mid.left
    → TellsFront more mid.said new.said → IsPrefixTalk due old new bytes (text ++ more)
whole-broken due old mid new bytes text more t left told = record {
  talk = t.talk ++ told.talk;
  passed = told_on old mid new bytes t.talk told.talk t.passed left told.said;
  at_once = at_once-append due silence t.talk told.talk t.at_once (told.tells.at_once due (course silence t.talk));
  all_heard = ap (λ (d : Course). d.heard) (course-append silence t.talk told.talk) ∙ told.tells.heard (course silence t.talk) ∙ ap (λ (d : Course). d.heard) t.all_told;
  front = (
    drop told.count more,
    ap (λ (l : List ℕ). text ++ l) (sym (take-append-drop told.count more)) ∙ sym (append_assoc text (take told.count more) (drop told.count more))
        ∙ ap (λ (l : List ℕ). l ++ drop told.count more)
        (sym (ap (λ (d : Course). d.told) (course-append silence t.talk told.talk) ∙ told.tells.told (course silence t.talk) ∙ ap (λ (d : Course). d.told ++ take told.count more) t.all_told)),
  );
}

-- then more was heard: all that was due before was told
pub whole-heard : (due : List ℕ → List ℕ) (old mid new : Shown) (bytes more : List ℕ) → IsWholeTalk due old mid bytes (due bytes) → Yields mid.left more new.left
    → Notes mid.said (Heard more ∷ []) new.said → IsWholeTalk due old new (bytes ++ more) (due bytes)
unfolding AnswersAtOnce course
whole-heard due old mid new bytes more t yields said =
    let told = ap (λ (d : Course). d.told) t.all_told ∙ ap due (sym (ap (λ (d : Course). d.heard) t.all_told)) in
    let flushed : (course silence t.talk).is_flushed ≡ true = ap (λ (d : Course). d.is_flushed) t.all_told in
    record {
      talk = t.talk ++ Heard more ∷ [];
      passed = joined old mid new bytes more t.talk (Heard more ∷ []) t.passed (record { left = yields; said = said });
      at_once = at_once-append due silence t.talk (Heard more ∷ []) t.at_once ((told, flushed), tt);
      all_told = course-append silence t.talk (Heard more ∷ []) ∙ ap (λ (d : Course). record d { heard = d.heard ++ more }) t.all_told;
    }

-- nothing more was heard, and nothing is left
pub whole-heard_none : (due : List ℕ → List ℕ) (old mid new : Shown) (bytes more : List ℕ) → IsWholeTalk due old mid bytes (due bytes) → Yields mid.left more new.left
    → Notes mid.said (Heard more ∷ []) new.said → more ≡ [] → IsWholeTalk due old new bytes (due bytes)
whole-heard_none due old mid new bytes more t yields said none =
    subst (λ (l : List ℕ). IsWholeTalk due old new l (due bytes)) (ap (λ (l : List ℕ). bytes ++ l) none ∙ append-nil bytes) (whole-heard due old mid new bytes more t yields said)

-- a whole talk is a front of one of which more is due
pub whole-front : (due : List ℕ → List ℕ) (old new : Shown) (bytes text more : List ℕ) → IsWholeTalk due old new bytes text → IsPrefixTalk due old new bytes (text ++ more)
whole-front due old new bytes text more t = record {
  talk = t.talk;
  passed = t.passed;
  at_once = t.at_once;
  all_heard = ap (λ (d : Course). d.heard) t.all_told;
  front = (more, ap (λ (d : Course). d.told ++ more) (sym t.all_told));
}

-- the same talk, where its peer shows the same
pub whole-still : (due : List ℕ → List ℕ) (old mid new : Shown) (bytes text : List ℕ) → IsWholeTalk due old mid bytes text → new.left ≡ mid.left → new.said ≡ mid.said → IsWholeTalk due old new bytes text
whole-still due old mid new bytes text t left said =
    let shows : mid ≡ new = λ k. record { left = sym left k; said = sym said k } in
    subst (λ (s : Shown). IsWholeTalk due old s bytes text) shows t

-- ---- how a whole talk ends

-- what is told at the end of a text behind which no line is taken
close-over : {S : Type 0} (a : Answering S) (h : Hearing S) → a.is_over h.state ≡ true → (close a h ≡ h) × (told_at_close a h ≡ [])
close-over a h over = rw over (refl, refl)

-- no further line is taken
pub answered-over : {S : Type 0} (front : List ℕ) (a : Answering S) (h i : Hearing S) (old new : Shown) (limit : ℕ) → (n : ℕ) × (n ≤ limit) × IsTalkOn front a h i old new n → a.is_over i.state ≡ true
    → (t : IsAnswered a h i old new limit) × IsPrefix front t.bytes
answered-over {S = S} front a h i old new limit t over =
    let here = t.2.0 in
    let bytes = here.bytes in
    let there : a.is_over (hear a h (lines_of bytes)).state ≡ true = ap (λ (k : Hearing S). a.is_over k.state) (sym here.led) ∙ over in
    let shut = close-over a (hear a h (lines_of bytes)) there in (
      record {
        bytes = bytes;
        within = omega (arith, t.1, here.counted);
        led = here.led ∙ sym shut.0;
        ended = inl there;
        talk = subst (λ (l : List ℕ). IsWholeTalk (dues a h) old new bytes l) (sym (append-nil (dues a h bytes)) ∙ ap (λ (l : List ℕ). dues a h bytes ++ l) (sym shut.1))
            (talk-whole a h i old new t.0 here);
      },
      t.2.1,
    )

-- nothing is left, and the end was answered
pub answered-end : {S : Type 0} (a : Answering S) (h i j : Hearing S) (old mid new : Shown) (limit : ℕ) (bytes : List ℕ) → length bytes ≤ limit → i ≡ hear a h (lines_of bytes)
    → IsWholeTalk (dues a h) old mid bytes (dues a h bytes) → IfSome mid.left (λ rest. rest ≡ []) → new.left ≡ mid.left → j ≡ close a i
    → (talk : List Said) × Notes mid.said talk new.said × TellsAll (told_at_close a i) talk → (t : IsAnswered a h j old new limit) × (t.bytes ≡ bytes)
answered-end {S = S} a h i j old mid new limit bytes within led t none left shut told = (
  record {
    bytes = bytes;
    within = within;
    led = shut ∙ ap (λ (k : Hearing S). close a k) led;
    ended = inr (subst (λ (l : Option (List ℕ)). IfSome l (λ rest. rest ≡ [])) (sym left) none);
    talk = subst (λ (k : Hearing S). IsWholeTalk (dues a h) old new bytes (dues a h bytes ++ told_at_close a k)) led
        (whole-told (dues a h) old mid new bytes (dues a h bytes) (told_at_close a i) t left told);
  },
  refl,
)

pub broken-end : {S : Type 0} (a : Answering S) (h i : Hearing S) (old mid new : Shown) (limit : ℕ) (too_long bytes : List ℕ) → i ≡ hear a h (lines_of bytes)
    → IsWholeTalk (dues a h) old mid bytes (dues a h bytes) → new.left ≡ mid.left → TellsFront (told_at_close a i) mid.said new.said
    → (t : IsBrokenWhole a h old new limit too_long) × (t.bytes ≡ bytes)
broken-end {S = S} a h i old mid new limit too_long bytes led t left told = (
  record {
    bytes = bytes;
    text = dues a h bytes ++ told_at_close a (hear a h (lines_of bytes));
    due = at_end refl;
    talk = subst (λ (k : Hearing S). IsPrefixTalk (dues a h) old new bytes (dues a h bytes ++ told_at_close a k)) led
        (whole-broken (dues a h) old mid new bytes (dues a h bytes) (told_at_close a i) t left told);
  },
  refl,
)

-- what holds of the bytes that were heard
behind : {T : Type 0} (bytes_of : T → List ℕ) (front bytes : List ℕ) → IsPrefix front bytes → (t : T) × (bytes_of t ≡ bytes) → (t : T) × IsPrefix front (bytes_of t)
behind bytes_of front bytes f t = (t.0, (f.0, t.1 ∙ f.1))

pub answered-ended : {S : Type 0} (front : List ℕ) (a : Answering S) (h i j : Hearing S) (old mid new : Shown) (limit : ℕ) → (n : ℕ) × (n ≤ limit) × IsTalkOn front a h i old mid n
    → IfSome mid.left (λ rest. rest ≡ []) → new.left ≡ mid.left → j ≡ close a i → (talk : List Said) × Notes mid.said talk new.said × TellsAll (told_at_close a i) talk
    → (t : IsAnswered a h j old new limit) × IsPrefix front t.bytes
answered-ended front a h i j old mid new limit t none left shut told =
    let here = t.2.0 in
    behind (λ (u : IsAnswered a h j old new limit). u.bytes) front here.bytes t.2.1
    (answered-end a h i j old mid new limit here.bytes (omega (arith, t.1, here.counted)) here.led (talk-whole a h i old mid t.0 here) none left shut told)

pub broken-ended : {S : Type 0} (front : List ℕ) (a : Answering S) (h i : Hearing S) (old mid new : Shown) (limit : ℕ) (too_long : List ℕ) → (n : ℕ) × (n ≤ limit) × IsTalkOn front a h i old mid n
    → new.left ≡ mid.left → TellsFront (told_at_close a i) mid.said new.said → (t : IsBrokenWhole a h old new limit too_long) × IsPrefix front t.bytes
broken-ended front a h i old mid new limit too_long t left told =
    let here = t.2.0 in
    behind (λ (u : IsBrokenWhole a h old new limit too_long). u.bytes) front here.bytes t.2.1
    (broken-end a h i old mid new limit too_long here.bytes here.led (talk-whole a h i old mid t.0 here) left told)

-- ---- at the limit

-- behind as many bytes as the limit allows nothing more was heard
still-whole : {S : Type 0} (a : Answering S) (h i : Hearing S) (old mid new : Shown) (n : ℕ) (one : Option ℕ) (t : IsTalk a h i old mid n) → HearsOne mid new one → one ≡ None
    → IsWholeTalk (dues a h) old new t.bytes (dues a h t.bytes)
still-whole a h i old mid new n one t more none =
    whole-heard_none (dues a h) old mid new t.bytes (option_to_list one) (talk-whole a h i old mid n t) more.left more.said (ap (λ (o : Option ℕ). option_to_list o) none)

pub answered-full : {S : Type 0} (front : List ℕ) (a : Answering S) (h i j : Hearing S) (old mid next new : Shown) (limit : ℕ) (one : Option ℕ) → (n : ℕ) × (n ≡ limit) × IsTalkOn front a h i old mid n
    → HearsOne mid next one → one ≡ None → IfSome next.left (λ rest. rest ≡ []) → new.left ≡ next.left → j ≡ close a i
    → (talk : List Said) × Notes next.said talk new.said × TellsAll (told_at_close a i) talk → (t : IsAnswered a h j old new limit) × IsPrefix front t.bytes
answered-full front a h i j old mid next new limit one t more none_more none left shut told =
    let here = t.2.0 in
    behind (λ (u : IsAnswered a h j old new limit). u.bytes) front here.bytes t.2.1
    (answered-end a h i j old next new limit here.bytes (omega (arith, t.1, here.counted)) here.led (still-whole a h i old mid next t.0 one here more none_more) none left shut told)

pub broken-full : {S : Type 0} (front : List ℕ) (a : Answering S) (h i : Hearing S) (old mid next new : Shown) (limit : ℕ) (one : Option ℕ) (too_long : List ℕ)
    → (n : ℕ) × (n ≡ limit) × IsTalkOn front a h i old mid n → HearsOne mid next one → one ≡ None → new.left ≡ next.left → TellsFront (told_at_close a i) next.said new.said
    → (t : IsBrokenWhole a h old new limit too_long) × IsPrefix front t.bytes
broken-full front a h i old mid next new limit one too_long t more none_more left told =
    let here = t.2.0 in
    behind (λ (u : IsBrokenWhole a h old new limit too_long). u.bytes) front here.bytes t.2.1
    (broken-end a h i old next new limit too_long here.bytes here.led (still-whole a h i old mid next t.0 one here more none_more) left told)

-- one byte more was heard
goes-on : {S : Type 0} (a : Answering S) (h i : Hearing S) (bytes : List ℕ) → i ≡ hear a h (lines_of bytes) → a.is_over i.state ≡ false → a.is_over (hear a h (lines_of bytes)).state ≡ false
goes-on {S = S} a h i bytes led goes = ap (λ (k : Hearing S). a.is_over k.state) (sym led) ∙ goes

one-more : {S : Type 0} (a : Answering S) (h i : Hearing S) (old mid new : Shown) (n : ℕ) (one : Option ℕ) (t : IsTalk a h i old mid n) (more : HearsOne mid new one)
    → IsWholeTalk (dues a h) old new (t.bytes ++ option_to_list one) (dues a h t.bytes)
one-more a h i old mid new n one t more = whole-heard (dues a h) old mid new t.bytes (option_to_list one) (talk-whole a h i old mid n t) more.left more.said

some-one : (one : Option ℕ) (b : ℕ) → one ≡ Some b → length (option_to_list one) ≡ 1
some-one one b some = ap (λ (o : Option ℕ). length (option_to_list o)) some

pub past-told : {S : Type 0} (front : List ℕ) (a : Answering S) (h i : Hearing S) (old mid next new : Shown) (limit : ℕ) (one : Option ℕ) (b : ℕ) (too_long : List ℕ)
    → (n : ℕ) × (n ≡ limit) × IsTalkOn front a h i old mid n → a.is_over i.state ≡ false → HearsOne mid next one → one ≡ Some b → new.left ≡ next.left
    → (talk : List Said) × Notes next.said talk new.said × TellsAll too_long talk → (t : IsPast a h old new limit too_long) × IsPrefix front (t.front ++ t.one)
past-told front a h i old mid next new limit one b too_long t goes more some left told =
    let here = t.2.0 in (
      record {
        front = here.bytes;
        one = option_to_list one;
        counted = here.counted ∙ t.1;
        one_more = some-one one b some;
        goes = goes-on a h i here.bytes here.led goes;
        talk = whole-told (dues a h) old next new (here.bytes ++ option_to_list one) (dues a h here.bytes) too_long (one-more a h i old mid next t.0 one here more) left told;
      },
      front-longer front here.bytes (option_to_list one) t.2.1,
    )

pub broken-past : {S : Type 0} (front : List ℕ) (a : Answering S) (h i : Hearing S) (old mid next new : Shown) (limit : ℕ) (one : Option ℕ) (b : ℕ) (too_long : List ℕ)
    → (n : ℕ) × (n ≡ limit) × IsTalkOn front a h i old mid n → a.is_over i.state ≡ false → HearsOne mid next one → one ≡ Some b → new.left ≡ next.left
    → TellsFront too_long next.said new.said → (t : IsBrokenWhole a h old new limit too_long) × IsPrefix front t.bytes
broken-past front a h i old mid next new limit one b too_long t goes more some left told =
    let here = t.2.0 in (
      record {
        bytes = here.bytes ++ option_to_list one;
        text = dues a h here.bytes ++ too_long;
        due = past here.bytes (option_to_list one) refl (here.counted ∙ t.1) (some-one one b some) (goes-on a h i here.bytes here.led goes) refl;
        talk = whole-broken (dues a h) old next new (here.bytes ++ option_to_list one) (dues a h here.bytes) too_long (one-more a h i old mid next t.0 one here more) left told;
      },
      front-longer front here.bytes (option_to_list one) t.2.1,
    )

-- ---- a talk that is broken off

pub unheard-talk : {S : Type 0} (front : List ℕ) (a : Answering S) (h i : Hearing S) (old new : Shown) → (n : ℕ) × IsTalkOn front a h i old new n → (t : IsUnheard a h old new) × IsPrefix front t.bytes
unheard-talk front a h i old new t = (record { bytes = t.1.0.bytes; talk = talk-whole a h i old new t.0 t.1.0 }, t.1.1)

pub unheard-full : {S : Type 0} (front : List ℕ) (a : Answering S) (h i : Hearing S) (old mid new : Shown) (limit : ℕ) → (n : ℕ) × (n ≡ limit) × IsTalkOn front a h i old mid n → new.left ≡ mid.left
    → new.said ≡ mid.said → (t : IsUnheard a h old new) × IsPrefix front t.bytes
unheard-full front a h i old mid new limit t left said =
    let here = t.2.0 in
    (record { bytes = here.bytes; talk = whole-still (dues a h) old mid new here.bytes (dues a h here.bytes) (talk-whole a h i old mid t.0 here) left said }, t.2.1)

pub broken-unheard : {S : Type 0} (front : List ℕ) (a : Answering S) (h : Hearing S) (old new : Shown) (limit : ℕ) (too_long : List ℕ) → (t : IsUnheard a h old new) × IsPrefix front t.bytes
    → (t : IsBrokenWhole a h old new limit too_long) × IsPrefix front t.bytes
broken-unheard front a h old new limit too_long u =
    let t = u.0 in (
      record {
        bytes = t.bytes;
        text = dues a h t.bytes ++ told_at_close a (hear a h (lines_of t.bytes));
        due = at_end refl;
        talk = whole-front (dues a h) old new t.bytes (dues a h t.bytes) (told_at_close a (hear a h (lines_of t.bytes))) t.talk;
      },
      u.1,
    )

-- a front of what is due of the lines is one of what is due of them and their end
pub broken-talk : {S : Type 0} (a : Answering S) (h : Hearing S) (old new : Shown) (limit : ℕ) (too_long bytes : List ℕ) (t : IsBrokenTalk a h old new) → t.bytes ≡ bytes
    → (u : IsBrokenWhole a h old new limit too_long) × (u.bytes ≡ bytes)
broken-talk a h old new limit too_long bytes t same =
    let more = told_at_close a (hear a h (lines_of t.bytes)) in
    let f = t.talk in (
      record {
        bytes = t.bytes;
        text = dues a h t.bytes ++ more;
        due = at_end refl;
        talk = record {
          talk = f.talk;
          passed = f.passed;
          at_once = f.at_once;
          all_heard = f.all_heard;
          front = (f.front.0 ++ more, ap (λ (l : List ℕ). l ++ more) f.front.1 ∙ append_assoc (course silence f.talk).told f.front.0 more);
        };
      },
      same,
    )

pub broken-talk_on : {S : Type 0} (front : List ℕ) (a : Answering S) (h : Hearing S) (old new : Shown) (limit : ℕ) (too_long : List ℕ) → (t : IsBrokenTalk a h old new) × IsPrefix front t.bytes
    → (u : IsBrokenWhole a h old new limit too_long) × IsPrefix front u.bytes
broken-talk_on front a h old new limit too_long t =
    behind (λ (u : IsBrokenWhole a h old new limit too_long). u.bytes) front t.0.bytes t.1 (broken-talk a h old new limit too_long t.0.bytes t.0 refl)

front-of : {X : Type 0} (xs ys : List X) → take (length xs) (xs ++ ys) ≡ xs
front-of [] ys = refl
front-of (x ∷ xs) ys = ap (λ l. x ∷ l) (front-of xs ys)

-- a talk that is too long, by the bytes that were heard
pub one-past :
    {S : Type 0} (a : Answering S) (h : Hearing S) (old new : Shown) (limit : ℕ) (text : List ℕ) → IsPast a h old new limit text
    → (bytes : List ℕ) × (length bytes ≡ limit + 1) × (a.is_over (hear a h (lines_of (take limit bytes))).state ≡ false)
    × IsWholeTalk (dues a h) old new bytes (dues a h (take limit bytes) ++ text)
one-past a h old new limit text p =
    let bytes = p.front ++ p.one in
    let front : take limit bytes ≡ p.front = ap (λ (n : ℕ). take n bytes) (sym p.counted) ∙ front-of p.front p.one in
    let counted = p.counted in
    let one = p.one_more in
    let more : length bytes ≡ limit + 1 = omega (arith, length-append p.front p.one) in (
      bytes,
      more,
      (ap (λ (l : List ℕ). a.is_over (hear a h (lines_of l)).state) front ∙ p.goes),
      subst (λ (l : List ℕ). IsWholeTalk (dues a h) old new bytes (dues a h l ++ text)) (sym front) p.talk,
    )
