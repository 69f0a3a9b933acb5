-- What a run is taken apart into.
use Rattle.std.proofs.lemmas.List.{take-append-drop}
use Rattle.std.proofs.Common.{◌≡◌, ◌≤◌, ◌⊎◌, ℕ, true, false, List, [], ◌++◌, Option, Some, None, IfSome, inl, inr, length, take, drop, refl, sym, ap, subst, ◌∙◌, arith}
use Rattle.tss_io.specs.Streams.{Rose, Yields}
use Rattle.game_trait.specs.Run.{IsPrefix}
use Rattle.line_talk.specs.declared.said.Said.{Said}
use Rattle.line_talk.specs.Hearing.{Answering, Hearing, fresh, due, heard, close, told_at_close}
use Rattle.line_talk.specs.Talk.{Course, Notes, silence, course, IsWholeTalk, IsPrefixTalk, IsDueOf, at_end, past as past_end, IsBrokenWhole}
use Rattle.live_talk.specs.declared.fed.Fed.{Fed}
use Rattle.live_talk.specs.declared.fed.Fed.TheVariants.{Goes, Refused, Ended}
use Rattle.live_talk.specs.Staging.{Staging}
use Rattle.tss_mirror.specs.declared.done.Status.{Status}
use Rattle.tss_mirror.specs.declared.done.Status.TheVariants.{Complete, NoMemory, WrongWords, ReadFault, WriteFault, Refusal}
use Rattle.tss_mirror.specs.Passing.{Passing}
use Rattle.tss_mirror.specs.Peers.{all_heard, all_told, is_flushed}
use Rattle.tss_mirror.specs.Run.{Side, too_long_text, status_at, code, EndsAs, answered, past, unheard, untold, no_memory, EndsUsage, told as usage_told, untold as usage_untold, EndsBy, IsRun}
use Rattle.tss_mirror.specs.Words.{mirror_of, usage_text}
use Rattle.tss_mirror.proofs.CourseLaws.{silence-plain}

-- ---- the course of a talk

plain-heard : (talk : List Said) (c : Course) → course silence talk ≡ c → all_heard talk ≡ c.heard
plain-heard talk c e = ap (λ (d : Course). d.heard) (sym (silence-plain talk) ∙ e)

plain-told : (talk : List Said) (c : Course) → course silence talk ≡ c → all_told talk ≡ c.told
plain-told talk c e = ap (λ (d : Course). d.told) (sym (silence-plain talk) ∙ e)

plain-flushed : (talk : List Said) (c : Course) → course silence talk ≡ c → is_flushed true talk ≡ c.is_flushed
plain-flushed talk c e = ap (λ (d : Course). d.is_flushed) (sym (silence-plain talk) ∙ e)

refused-fed : (f : Fed) → Refusal ≡ status_at f → f ≡ Refused
refused-fed Goes e = absurd cc
refused-fed Refused e = refl
refused-fed Ended e = absurd cc

-- ---- how a talk ends, by its status

module _
    {S : Type 0} (way : Answering S) (start : S) (fed : S → Fed) (limit : ℕ) (such : List ℕ → Type 0) (old new : Side) where
  abbrev Passes : Type 0
  Passes = Passing (λ bytes. due way start bytes) old new

  abbrev by_then : List ℕ → Hearing S
  by_then bytes = heard way start bytes

  abbrev closing : List ℕ → List ℕ
  closing bytes = due way start bytes ++ told_at_close way (by_then bytes)

  whole : (bytes text : List ℕ) → IsWholeTalk (λ bytes. due way start bytes) old.shown new.shown bytes text
      → (p : Passes) × (all_heard p.talk ≡ bytes) × (all_told p.talk ≡ text) × (is_flushed true p.talk ≡ true)
  whole bytes text t =
      let h : all_heard t.talk ≡ bytes = plain-heard t.talk _ t.all_told in (
        record { talk = t.talk; left = subst (λ (l : List ℕ). Yields old.shown.left l new.shown.left) (sym h) t.passed.left; said = t.passed.said; at_once = t.at_once },
        h,
        plain-told t.talk _ t.all_told,
        plain-flushed t.talk _ t.all_told,
      )

  front : (bytes text : List ℕ) → IsPrefixTalk (λ bytes. due way start bytes) old.shown new.shown bytes text → (p : Passes) × (all_heard p.talk ≡ bytes) × IsPrefix (all_told p.talk) text
  front bytes text t =
      let h : all_heard t.talk ≡ bytes = plain-heard t.talk (course silence t.talk) refl ∙ t.all_heard in (
        record { talk = t.talk; left = subst (λ (l : List ℕ). Yields old.shown.left l new.shown.left) (sym h) t.passed.left; said = t.passed.said; at_once = t.at_once },
        h,
        subst (λ (l : List ℕ). IsPrefix l text) (sym (plain-told t.talk (course silence t.talk) refl)) t.front,
      )

  abbrev Ends : Status → Type 0
  Ends status = EndsAs way start fed limit such old new status

  abbrev HasEnded : List ℕ → Type 0
  HasEnded bytes = (way.is_over (by_then bytes).state ≡ true) ⊎ IfSome new.shown.left (λ rest. rest ≡ [])

  pub complete : Ends Complete
      → (p : Passes) × such (all_heard p.talk) × (length (all_heard p.talk) ≤ limit) × (new.faults ≡ old.faults) × (is_flushed true p.talk ≡ true)
      × (HasEnded (all_heard p.talk) × (all_told p.talk ≡ closing (all_heard p.talk)))
  complete (answered last talk is same steady) =
      let w = whole talk.bytes (closing talk.bytes) talk.talk in
      let back = sym w.1 in
      (w.0, subst such back is, subst (λ (l : List ℕ). length l ≤ limit) back talk.within, steady, w.3, (subst HasEnded back talk.ended, w.2 ∙ ap closing back))
  complete (past talk is same steady) = absurd cc
  complete (unheard talk is same rose) = absurd cc
  complete (untold talk is same rose) = absurd cc
  complete (no_memory talk is same) = absurd cc

  abbrev IsHeadless : List ℕ → List ℕ → Type 0
  IsHeadless bytes told = (fed (close way (by_then bytes)).state ≡ Refused) × (told ≡ closing bytes)

  abbrev IsTooLong : List ℕ → List ℕ → Type 0
  IsTooLong bytes told =
      (front : List ℕ) × (one : List ℕ) × (bytes ≡ front ++ one) × (length front ≡ limit) × (length one ≡ 1) × (way.is_over (by_then front).state ≡ false)
      × (told ≡ due way start front ++ too_long_text)

  pub refused : Ends Refusal
      → (p : Passes) × such (all_heard p.talk) × (new.faults ≡ old.faults) × (is_flushed true p.talk ≡ true)
      × (IsHeadless (all_heard p.talk) (all_told p.talk) ⊎ IsTooLong (all_heard p.talk) (all_told p.talk))
  refused (answered last talk is same steady) =
      let w = whole talk.bytes (closing talk.bytes) talk.talk in
      let back = sym w.1 in
      let stands : fed (close way (by_then talk.bytes)).state ≡ Refused = sym (ap (λ (h : Hearing S). fed h.state) talk.led) ∙ refused-fed (fed last.state) same in
      (w.0, subst such back is, steady, w.3, inl (subst (λ (l : List ℕ). fed (close way (by_then l)).state ≡ Refused) back stands, w.2 ∙ ap closing back))
  refused (past talk is same steady) =
      let w = whole (talk.front ++ talk.one) (due way start talk.front ++ too_long_text) talk.talk in
      (w.0, subst such (sym w.1) is, steady, w.3, inr (talk.front, talk.one, w.1, talk.counted, talk.one_more, talk.goes, w.2))
  refused (unheard talk is same rose) = absurd cc
  refused (untold talk is same rose) = absurd cc
  refused (no_memory talk is same) = absurd cc

  pub not-heard : Ends ReadFault
      → (p : Passes) × such (all_heard p.talk) × Rose old.faults new.faults × (is_flushed true p.talk ≡ true) × (all_told p.talk ≡ due way start (all_heard p.talk))
  not-heard (answered last talk is same steady) = absurd (never-3 (fed last.state) same)
    where
      never-3 : (f : Fed) → ReadFault ≡ status_at f → ⊥
      never-3 Goes e = absurd cc
      never-3 Refused e = absurd cc
      never-3 Ended e = absurd cc
  not-heard (past talk is same steady) = absurd cc
  not-heard (unheard talk is same rose) =
      let w = whole talk.bytes (due way start talk.bytes) talk.talk in
      let back = sym w.1 in
      (w.0, subst such back is, rose, w.3, w.2 ∙ ap (λ (l : List ℕ). due way start l) back)
  not-heard (untold talk is same rose) = absurd cc
  not-heard (no_memory talk is same) = absurd cc

  abbrev IsCut : List ℕ → List ℕ → Type 0
  IsCut bytes told = (text : List ℕ) × IsDueOf way (fresh start) limit too_long_text bytes text × IsPrefix told text

  cut : (t : IsBrokenWhole way (fresh start) old.shown new.shown limit too_long_text) → such t.bytes → (p : Passes) × such (all_heard p.talk) × IsCut (all_heard p.talk) (all_told p.talk)
  cut t is =
      let w = front t.bytes t.text t.talk in
      let back = sym w.1 in
      (w.0, subst such back is, (t.text, subst (λ (l : List ℕ). IsDueOf way (fresh start) limit too_long_text l t.text) back t.due, w.2))

  pub not-told : Ends WriteFault → (p : Passes) × such (all_heard p.talk) × Rose old.faults new.faults × IsCut (all_heard p.talk) (all_told p.talk)
  not-told (answered last talk is same steady) = absurd (never-4 (fed last.state) same)
    where
      never-4 : (f : Fed) → WriteFault ≡ status_at f → ⊥
      never-4 Goes e = absurd cc
      never-4 Refused e = absurd cc
      never-4 Ended e = absurd cc
  not-told (past talk is same steady) = absurd cc
  not-told (unheard talk is same rose) = absurd cc
  not-told (untold talk is same rose) = let c = cut talk is in (c.0, c.1, rose, c.2)
  not-told (no_memory talk is same) = absurd cc

  pub forgotten : Ends NoMemory → (p : Passes) × such (all_heard p.talk) × IsCut (all_heard p.talk) (all_told p.talk)
  forgotten (answered last talk is same steady) = absurd (never-1 (fed last.state) same)
    where
      never-1 : (f : Fed) → NoMemory ≡ status_at f → ⊥
      never-1 Goes e = absurd cc
      never-1 Refused e = absurd cc
      never-1 Ended e = absurd cc
  forgotten (past talk is same steady) = absurd cc
  forgotten (unheard talk is same rose) = absurd cc
  forgotten (untold talk is same rose) = absurd cc
  forgotten (no_memory talk is same) = cut talk is

-- ---- what is due of a talk that is broken off

pub due-of : {S : Type 0} (way : Answering S) (start : S) (limit : ℕ) (too_long bytes text : List ℕ) → IsDueOf way (fresh start) limit too_long bytes text
    → (text ≡ due way start bytes ++ told_at_close way (heard way start bytes))
    ⊎ ((front : List ℕ) × (one : List ℕ) × (bytes ≡ front ++ one) × (length front ≡ limit) × (length one ≡ 1) × (way.is_over (heard way start front).state ≡ false) × (text ≡ due way start front ++ too_long))
due-of way start limit too_long bytes text (at_end same) = inl same
due-of way start limit too_long bytes text (past_end front one parts counted one_more goes same) = inr (front, one, parts, counted, one_more, goes, same)

-- ---- the cause of each status

record HasCause (old new : Side) (status : Status) : Type 0 where
  pub few : code status ≤ 5
  pub read : 3 ≡ code status → Rose old.faults new.faults
  pub write : 4 ≡ code status → Rose old.faults new.faults
  pub none : (Rose old.faults new.faults → ⊥) → (code status ≡ 1) ⊎ ((new.faults ≡ old.faults) × ((code status ≡ 0) ⊎ ((code status ≡ 2) ⊎ (code status ≡ 5))))

cause-complete : (old new : Side) → new.faults ≡ old.faults → HasCause old new Complete
cause-complete old new steady = record { few = omega arith; read = λ e. absurd (omega (arith, e)); write = λ e. absurd (omega (arith, e)); none = λ _. inr (steady, inl refl) }

cause-usage : (old new : Side) → new.faults ≡ old.faults → HasCause old new WrongWords
cause-usage old new steady = record { few = omega arith; read = λ e. absurd (omega (arith, e)); write = λ e. absurd (omega (arith, e)); none = λ _. inr (steady, inr (inl refl)) }

cause-refusal : (old new : Side) → new.faults ≡ old.faults → HasCause old new Refusal
cause-refusal old new steady = record { few = omega arith; read = λ e. absurd (omega (arith, e)); write = λ e. absurd (omega (arith, e)); none = λ _. inr (steady, inr (inr refl)) }

cause-read : (old new : Side) → Rose old.faults new.faults → HasCause old new ReadFault
cause-read old new rose = record { few = omega arith; read = λ _. rose; write = λ e. absurd (omega (arith, e)); none = λ never. absurd (never rose) }

cause-write : (old new : Side) → Rose old.faults new.faults → HasCause old new WriteFault
cause-write old new rose = record { few = omega arith; read = λ e. absurd (omega (arith, e)); write = λ _. rose; none = λ never. absurd (never rose) }

cause-memory : (old new : Side) → HasCause old new NoMemory
cause-memory old new = record { few = omega arith; read = λ e. absurd (omega (arith, e)); write = λ e. absurd (omega (arith, e)); none = λ _. inl refl }

cause-fed : (old new : Side) (f : Fed) → new.faults ≡ old.faults → HasCause old new (status_at f)
cause-fed old new Goes steady = cause-complete old new steady
cause-fed old new Refused steady = cause-refusal old new steady
cause-fed old new Ended steady = cause-complete old new steady

cause-ends : {S : Type 0} (way : Answering S) (start : S) (fed : S → Fed) (limit : ℕ) (such : List ℕ → Type 0) (old new : Side) (status : Status) → EndsAs way start fed limit such old new status → HasCause old new status
cause-ends way start fed limit such old new status (answered last talk is same steady) = subst (HasCause old new) (sym same) (cause-fed old new (fed last.state) steady)
cause-ends way start fed limit such old new status (past talk is same steady) = subst (HasCause old new) (sym same) (cause-refusal old new steady)
cause-ends way start fed limit such old new status (unheard talk is same rose) = subst (HasCause old new) (sym same) (cause-read old new rose)
cause-ends way start fed limit such old new status (untold talk is same rose) = subst (HasCause old new) (sym same) (cause-write old new rose)
cause-ends way start fed limit such old new status (no_memory talk is same) = subst (HasCause old new) (sym same) (cause-memory old new)

cause-usages : (old new : Side) (status : Status) → EndsUsage old new status → HasCause old new status
cause-usages old new status (usage_told talk left same steady) = subst (HasCause old new) (sym same) (cause-usage old new steady)
cause-usages old new status (usage_untold talk left same rose) = subst (HasCause old new) (sym same) (cause-write old new rose)

cause-by : {W : Type 0} (g : Staging W) (o : Option ℕ) (old new : Side) (status : Status) → EndsBy g o old new status → HasCause old new status
cause-by g None old new status ends = cause-usages old new status ends
cause-by g (Some number) old new status (inl ends) = cause-ends _ _ _ _ _ old new status ends
cause-by g (Some number) old new status (inr ends) = cause-ends _ _ _ _ _ old new status ends

pub run-few : {W : Type 0} (g : Staging W) (words : List (List ℕ)) (old new : Side) (exit : ℕ) → IsRun g words old new exit → exit ≤ 5
run-few g words old new exit r = let few = (cause-by g (mirror_of words) old new r.0 r.2).few in omega (arith, few, r.1)

pub run-read : {W : Type 0} (g : Staging W) (words : List (List ℕ)) (old new : Side) → IsRun g words old new 3 → Rose old.faults new.faults
run-read g words old new r = (cause-by g (mirror_of words) old new r.0 r.2).read r.1

pub run-write : {W : Type 0} (g : Staging W) (words : List (List ℕ)) (old new : Side) → IsRun g words old new 4 → Rose old.faults new.faults
run-write g words old new r = (cause-by g (mirror_of words) old new r.0 r.2).write r.1

pub run-none : {W : Type 0} (g : Staging W) (words : List (List ℕ)) (old new : Side) (exit : ℕ) → IsRun g words old new exit → (Rose old.faults new.faults → ⊥)
    → (exit ≡ 1) ⊎ ((new.faults ≡ old.faults) × ((exit ≡ 0) ⊎ ((exit ≡ 2) ⊎ (exit ≡ 5))))
run-none g words old new exit r never =
    subst (λ (n : ℕ). (n ≡ 1) ⊎ ((new.faults ≡ old.faults) × ((n ≡ 0) ⊎ ((n ≡ 2) ⊎ (n ≡ 5))))) (sym r.1) ((cause-by g (mirror_of words) old new r.0 r.2).none never)

-- ---- words that name no mirror

two-fed : (f : Fed) → 2 ≡ code (status_at f) → ⊥
two-fed Goes e = omega (arith, e)
two-fed Refused e = omega (arith, e)
two-fed Ended e = omega (arith, e)

two-ends : {S : Type 0} (way : Answering S) (start : S) (fed : S → Fed) (limit : ℕ) (such : List ℕ → Type 0) (old new : Side) (status : Status) → EndsAs way start fed limit such old new status → 2 ≡ code status → ⊥
two-ends way start fed limit such old new status (answered last talk is same steady) e = two-fed (fed last.state) (e ∙ ap code same)
two-ends way start fed limit such old new status (past talk is same steady) e = omega (arith, e ∙ ap code same)
two-ends way start fed limit such old new status (unheard talk is same rose) e = omega (arith, e ∙ ap code same)
two-ends way start fed limit such old new status (untold talk is same rose) e = omega (arith, e ∙ ap code same)
two-ends way start fed limit such old new status (no_memory talk is same) e = omega (arith, e ∙ ap code same)

two-by : {W : Type 0} (g : Staging W) (o : Option ℕ) (old new : Side) (status : Status) → EndsBy g o old new status → 2 ≡ code status → o ≡ None
two-by g None old new status ends e = refl
two-by g (Some number) old new status (inl ends) e = absurd (two-ends _ _ _ _ _ old new status ends e)
two-by g (Some number) old new status (inr ends) e = absurd (two-ends _ _ _ _ _ old new status ends e)

pub run-two : {W : Type 0} (g : Staging W) (words : List (List ℕ)) (old new : Side) → IsRun g words old new 2 → mirror_of words ≡ None
run-two g words old new r = two-by g (mirror_of words) old new r.0 r.2 r.1

abbrev TellsUsage : Side → Side → ℕ → Type 0
TellsUsage old new exit =
    (new.shown.left ≡ old.shown.left)
    × ((talk : List Said) × Notes old.shown.said talk new.shown.said × (all_heard talk ≡ [])
    × (((exit ≡ 2) × (all_told talk ≡ usage_text) × (is_flushed true talk ≡ true) × (new.faults ≡ old.faults)) ⊎ ((exit ≡ 4) × IsPrefix (all_told talk) usage_text × Rose old.faults new.faults)))

usage-told : (old new : Side) (status : Status) (exit : ℕ) → exit ≡ code status → EndsUsage old new status → TellsUsage old new exit
usage-told old new status exit e (usage_told talk left same steady) =
    let at = talk.2.leads silence in
    (left, (talk.0, talk.1, plain-heard talk.0 _ at, inl (e ∙ ap code same, plain-told talk.0 _ at, plain-flushed talk.0 _ at, steady)))
usage-told old new status exit e (usage_untold talk left same rose) =
    let told : all_told talk.talk ≡ take talk.count usage_text = plain-told talk.talk (course silence talk.talk) refl ∙ talk.tells.told silence in
    let rest : IsPrefix (all_told talk.talk) usage_text = (drop talk.count usage_text, sym (take-append-drop talk.count usage_text) ∙ ap (λ (l : List ℕ). l ++ drop talk.count usage_text) (sym told)) in
    (left, (talk.talk, talk.said, plain-heard talk.talk (course silence talk.talk) refl ∙ talk.tells.heard silence, inr (e ∙ ap code same, rest, rose)))

pub run-usage : {W : Type 0} (g : Staging W) (words : List (List ℕ)) (old new : Side) (exit : ℕ) → IsRun g words old new exit → mirror_of words ≡ None → TellsUsage old new exit
run-usage g words old new exit r is = usage-told old new r.0 exit r.1 (subst (λ (o : Option ℕ). EndsBy g o old new r.0) is r.2)

pub run-talk : {W : Type 0} (g : Staging W) (words : List (List ℕ)) (old new : Side) (exit number : ℕ) → IsRun g words old new exit → mirror_of words ≡ Some number
    → (status : Status) × (exit ≡ code status) × EndsBy g (Some number) old new status
run-talk g words old new exit number r is = (r.0, r.1, subst (λ (o : Option ℕ). EndsBy g o old new r.0) is r.2)
