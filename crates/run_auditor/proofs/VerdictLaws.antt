-- Exactly one verdict tells of a record.
use Rattle.std.proofs.Common.{◌≡◌, inl, inr, length, ℕ, ◌+◌, true, false, cond, List, [], ◌∷◌, ◌++◌, Option, Some, None, refl, ap, sym, subst, ◌∙◌, arith}
use Rattle.std.specs.Prelude.{bytes_eq}
use Rattle.std.specs.List.{AllByRecursion}
use Rattle.std.proofs.lemmas.Slice.Eq.{bytes_eq-Decides}
use Rattle.game_trait.specs.declared.event.Event.{Event}
use Rattle.game_trait.specs.declared.event.Reply.{Reply}
use Rattle.sync_model.specs.State.{MirrorState}
use Rattle.sync_model.specs.Change.{next, said, is_change, changes, after}
use Rattle.sync_model.specs.Drafts.{run_of}
use Rattle.sync_model.specs.History.{EachChanges}
use Rattle.match_data.specs.Data.{MatchData}
use Rattle.match_data.specs.declared.log.MirrorLog.{MirrorLog}
use Rattle.run_recorder.specs.declared.race_record.RaceRecord.{RaceRecord}
use Rattle.run_recorder.specs.Data.{EachNumbered, IsEventOf, IsLogOf, IsRecord}
use Rattle.run_auditor.specs.declared.verdict.Verdict.{Verdict}
use Rattle.run_auditor.specs.declared.verdict.Verdict.TheVariants.{Legal, NotLegal}
use Rattle.run_auditor.specs.declared.why.Fault.{Fault}
use Rattle.run_auditor.specs.declared.why.Why.{Why}
use Rattle.run_auditor.specs.declared.why.Why.TheVariants as whys
use Rattle.report_text.specs.Worlds.{Showing, copy_block}
use Rattle.run_auditor.specs.Audit.{start, IsRight, IsStuckAt, IsFirstWrong, IsFault, Found, AllRight, IsFirstFault, event_count, Tells}
use Rattle.run_auditor.specs.Walks.{why_of}
use Rattle.run_auditor.proofs.WalkLaws.{why_changes, why_stays, events_named, opened_copies}
use Rattle.run_auditor.proofs.AuditLaws.{other_bytes, not_stuck, not_wrong}

-- ---- a log

abbrev later : Option Fault → Option Fault
later None = None
later (Some fault) = Some (record { place = fault.place + 1; why = fault.why })

abbrev or_later : Option Why → Option Fault → Option Fault
or_later None rest = later rest
or_later (Some why) rest = Some (record { place = 0; why = why })

-- the first event of a log that changes nothing
unfoldable first_stuck : {W : Type 0} → MirrorState W → List Event → Option Fault
first_stuck s [] = None
first_stuck s (e ∷ es) = or_later (why_of (said s e)) (first_stuck (next s e) es)

no_later : (o : Option Fault) → later o ≡ None → o ≡ None
no_later None e = refl
no_later (Some fault) e = absurd cc

stuck_none : {W : Type 0} (s : MirrorState W) (log : List Event) → first_stuck s log ≡ None → EachChanges s log
unfolding first_stuck EachChanges
stuck_none s [] e = tt
stuck_none s (x ∷ log) e =
    elim (why_of (said s x)) as (λ o. why_of (said s x) ≡ o → or_later o (first_stuck (next s x) log) ≡ None → (changes s x ≡ true) × EachChanges (next s x) log) [
      | None ↦ λ none e. (why_changes (said s x) none, stuck_none (next s x) log (no_later (first_stuck (next s x) log) e))
      | Some why ↦ λ some e. absurd cc
    ] refl e

stuck_here : {W : Type 0} (s : MirrorState W) (x : Event) (log : List Event) (why : Why) → why_of (said s x) ≡ Some why → IsStuckAt s (x ∷ log) 0 why
unfolding EachChanges after
stuck_here s x log why e = record { front = []; event = x; rest = log; whole = refl; here = refl; before = tt; stuck = e }

stuck_further : {W : Type 0} (s : MirrorState W) (x : Event) (log : List Event) (place : ℕ) (why : Why) → changes s x
    ≡ true → IsStuckAt (next s x) log place why → IsStuckAt s (x ∷ log) (place + 1) why
unfolding EachChanges after
stuck_further s x log place why changed at = record {
  front = x ∷ at.front;
  event = at.event;
  rest = at.rest;
  whole = ap (λ (l : List Event). x ∷ l) at.whole;
  here = (let place = at.here in omega arith);
  before = (changed, at.before);
  stuck = at.stuck;
}

some_fault-same : (a b : Fault) → ◌≡◌ {A = Option Fault} (Some a) (Some b) → a ≡ b
some_fault-same a b e = cc

stuck_some : {W : Type 0} (s : MirrorState W) (log : List Event) (fault : Fault) → first_stuck s log ≡ Some fault → IsStuckAt s log fault.place fault.why
unfolding first_stuck
stuck_some s [] fault e = absurd cc
stuck_some {W} s (x ∷ log) fault e =
    elim (why_of (said s x)) as (λ o. why_of (said s x) ≡ o → or_later o (first_stuck (next s x) log) ≡ Some fault → IsStuckAt s (x ∷ log) fault.place fault.why) [
      | None ↦ λ none e. behind (stuck_some (next s x) log) (first_stuck (next s x) log) refl (why_changes (said s x) none) e
      | Some why ↦ λ some e. subst (λ (f : Fault). IsStuckAt s (x ∷ log) f.place f.why) (some_fault-same (record { place = 0; why = why }) fault e) (stuck_here s x log why some)
    ] refl e
  where
    behind : ((f : Fault) → first_stuck (next s x) log ≡ Some f → IsStuckAt (next s x) log f.place f.why)
        → (o : Option Fault) → first_stuck (next s x) log ≡ o → changes s x ≡ true → later o ≡ Some fault
        → IsStuckAt s (x ∷ log) fault.place fault.why
    behind there None is changed e = absurd cc
    behind there (Some f) is changed e =
        subst (λ (g : Fault). IsStuckAt s (x ∷ log) g.place g.why) (some_fault-same (record { place = f.place + 1; why = f.why }) fault e)
        (stuck_further s x log f.place f.why changed (there f is))

change_none : (r : Reply) (o : Option Why) → why_of r ≡ o → is_change r ≡ true → why_of r ≡ None
change_none r None is changed = is
change_none r (Some why) is changed = absurd (let same = why_stays r why is in cc)

stuck_behind : {W : Type 0} (s : MirrorState W) (front : List Event) (x : Event) (rest : List Event) (why : Why)
    → EachChanges s front → why_of (said (after s front) x) ≡ Some why → first_stuck s (front ++ x ∷ rest)
    ≡ Some (record { place = length front; why = why })
unfolding first_stuck EachChanges after
stuck_behind s [] x rest why each stuck = rw stuck refl
stuck_behind s (y ∷ front) x rest why each stuck =
    let none = change_none (said s y) (why_of (said s y)) refl each.0 in
    rw (none, stuck_behind (next s y) front x rest why each.1 stuck) (λ i. Some (record { place = (let more : length front + 1 ≡ length (y ∷ front) = omega arith in more) i; why = why }))

stuck_is : {W : Type 0} (s : MirrorState W) (log : List Event) (place : ℕ) (why : Why) → IsStuckAt s log place why → first_stuck s log ≡ Some (record { place = place; why = why })
stuck_is s log place why at =
    ap (first_stuck s) at.whole ∙ stuck_behind s at.front at.event at.rest why at.before at.stuck ∙ (λ i. Some (record { place = (sym at.here) i; why = why }))

-- ---- the worlds of a mirror

-- the first of stated worlds that isn't the due one, where the first has this number
unfoldable first_wrong : (ℕ → List ℕ) → ℕ → List (List ℕ) → Option ℕ
first_wrong due n [] = None
first_wrong due n (block ∷ blocks) = cond (bytes_eq block (due n)) (first_wrong due (n + 1) blocks) (Some n)

abbrev IsDue : (ℕ → List ℕ) → ℕ → List ℕ → Type 0
IsDue due copy block = block ≡ due copy

wrong_none : (due : ℕ → List ℕ) (n : ℕ) (blocks : List (List ℕ)) → first_wrong due n blocks ≡ None → EachNumbered (IsDue due) n blocks
unfolding first_wrong EachNumbered
wrong_none due n [] e = tt
wrong_none due n (block ∷ blocks) e =
    elim (bytes_eq block (due n)) as (λ b. bytes_eq block (due n) ≡ b → cond b (first_wrong due (n + 1) blocks) (Some n) ≡ None → (block ≡ due n) × EachNumbered (IsDue due) (n + 1) blocks) [
      | true ↦ λ is e. ((bytes_eq-Decides block (due n)).0 is, wrong_none due (n + 1) blocks e)
      | false ↦ λ is e. absurd cc
    ] refl e

same_place : (a b : ℕ) → ◌≡◌ {A = Option ℕ} (Some a) (Some b) → b ≡ a
same_place a b e = cc

wrong_some : (due : ℕ → List ℕ) (n : ℕ) (blocks : List (List ℕ)) (place : ℕ) → first_wrong due n blocks ≡ Some place → IsFirstWrong (IsDue due) n blocks place
unfolding first_wrong IsFirstWrong
wrong_some due n [] place e = absurd cc
wrong_some due n (block ∷ blocks) place e =
    elim (bytes_eq block (due n)) as (λ b. bytes_eq block (due n) ≡ b → cond b (first_wrong due (n + 1) blocks) (Some n) ≡ Some place → IsFirstWrong (IsDue due) n (block ∷ blocks) place) [
      | true ↦ λ is e. inr ((bytes_eq-Decides block (due n)).0 is, wrong_some due (n + 1) blocks place e)
      | false ↦ λ is e. inl (same_place n place e, other_bytes block (due n) is)
    ] refl e

wrong_is : (due : ℕ → List ℕ) (n : ℕ) (blocks : List (List ℕ)) (place : ℕ) → IsFirstWrong (IsDue due) n blocks place → first_wrong due n blocks ≡ Some place
unfolding first_wrong IsFirstWrong
wrong_is due n [] place wrong = absurd wrong
wrong_is due n (block ∷ blocks) place wrong =
    elim (bytes_eq block (due n)) as (λ b. bytes_eq block (due n) ≡ b → cond b (first_wrong due (n + 1) blocks) (Some n) ≡ Some place) [
      | true ↦ λ is. elim wrong [ inl here ↦ absurd (here.1 ((bytes_eq-Decides block (due n)).0 is)) | inr more ↦ wrong_is due (n + 1) blocks place more.1 ]
      | false ↦ λ is. elim wrong [ inl here ↦ ap Some (sym here.0) | inr more ↦ absurd (other_bytes block (due n) is more.0) ]
    ] refl

-- ---- a mirror

abbrev or_world : Option Fault → Option ℕ → Option Fault
or_world (Some fault) copy = Some fault
or_world None None = None
or_world None (Some copy) = Some (record { place = copy; why = whys.World })

-- the worlds that are due behind a log
abbrev worlds_due : {W : Type 0} → Showing W → W → MatchData → ℕ → List Event → ℕ → List ℕ
worlds_due show opening m number log copy =
    copy_block show number (after (start opening m) log).opening copy (run_of (after (start opening m) log) copy)

-- the first fault of a mirror
abbrev fault_of : {W : Type 0} → Showing W → W → MatchData → ℕ → List Event → List (List ℕ) → Option Fault
fault_of show opening m number log blocks =
    or_world (first_stuck (start opening m) log) (first_wrong (worlds_due show opening m number log) 0 blocks)

mirror_found : {W : Type 0} (show : Showing W) (opening : W) (m : MatchData) (number : ℕ) (log : List Event)
    (blocks : List (List ℕ)) → AllByRecursion (IsEventOf m) log
    → Found show opening m number log blocks (fault_of show opening m number log blocks)
mirror_found {W} show opening m number log blocks events = by_log (first_stuck (start opening m) log) refl (first_wrong (worlds_due show opening m number log) 0 blocks) refl
  where
    by_log : (o : Option Fault) → first_stuck (start opening m) log ≡ o → (p : Option ℕ)
        → first_wrong (worlds_due show opening m number log) 0 blocks ≡ p
        → Found show opening m number log blocks (or_world o p)
    by_log (Some fault) is p its = inl (stuck_some (start opening m) log fault is)
    by_log None is None its = record {
      legal = record { changes = stuck_none (start opening m) log is; there = events_named m (start opening m) log refl (opened_copies opening m 0 0) events };
      worlds = wrong_none (worlds_due show opening m number log) 0 blocks its;
    }
    by_log None is (Some copy) its = inr (record {
      legal = record { changes = stuck_none (start opening m) log is; there = events_named m (start opening m) log refl (opened_copies opening m 0 0) events };
      cause = refl;
      world = wrong_some (worlds_due show opening m number log) 0 blocks copy its;
    })

changes_none : {W : Type 0} (s : MirrorState W) (log : List Event) → EachChanges s log → first_stuck s log ≡ None
changes_none s log each =
    elim (first_stuck s log) as (λ o. first_stuck s log ≡ o → o ≡ None) [
      | None ↦ λ is. refl
      | Some fault ↦ λ is. absurd (not_stuck s log fault.place fault.why each (stuck_some s log fault is))
    ] refl

due_none : (due : ℕ → List ℕ) (n : ℕ) (blocks : List (List ℕ)) → EachNumbered (IsDue due) n blocks → first_wrong due n blocks ≡ None
due_none due n blocks each =
    elim (first_wrong due n blocks) as (λ o. first_wrong due n blocks ≡ o → o ≡ None) [
      | None ↦ λ is. refl
      | Some place ↦ λ is. absurd (not_wrong (IsDue due) n blocks place each (wrong_some due n blocks place is))
    ] refl

mirror_right : {W : Type 0} (show : Showing W) (opening : W) (m : MatchData) (number : ℕ) (log : List Event)
    (blocks : List (List ℕ)) → IsRight show opening m number log blocks → fault_of show opening m number log blocks
    ≡ None
mirror_right show opening m number log blocks right =
    rw (changes_none (start opening m) log right.legal.changes, due_none (worlds_due show opening m number log) 0 blocks right.worlds) refl

mirror_fault : {W : Type 0} (show : Showing W) (opening : W) (m : MatchData) (number : ℕ) (log : List Event)
    (blocks : List (List ℕ)) (place : ℕ) (why : Why) → IsFault show opening m number log blocks place why
    → fault_of show opening m number log blocks ≡ Some (record { place = place; why = why })
mirror_fault show opening m number log blocks place why (inl stuck) = rw (stuck_is (start opening m) log place why stuck) refl
mirror_fault show opening m number log blocks place why (inr wrong) =
    rw (changes_none (start opening m) log wrong.legal.changes, wrong_is (worlds_due show opening m number log) 0 blocks place wrong.world)
    (λ i. Some (record { place = place; why = (sym wrong.cause) i }))

-- ---- all mirrors

abbrev verdict_at : ℕ → Option Fault → Verdict → Verdict
verdict_at n None rest = rest
verdict_at n (Some fault) rest = NotLegal n fault.place fault.why

-- the verdict on these mirrors, of which the first has this number, behind this number of events
unfoldable verdict_from : {W : Type 0} → Showing W → W → MatchData → ℕ → ℕ → List MirrorLog → List (List (List ℕ)) → Verdict
verdict_from show opening m n events [] worlds = Legal (events + 0)
verdict_from show opening m n events (log ∷ logs) [] = Legal (events + (length log.events + event_count logs))
verdict_from show opening m n events (log ∷ logs) (blocks ∷ worlds) =
    verdict_at n (fault_of show opening m n log.events blocks) (verdict_from show opening m (n + 1) (events + length log.events) logs worlds)

-- what a verdict says of these mirrors
abbrev TellsFrom : {W : Type 0} → Showing W → W → MatchData → ℕ → ℕ → List MirrorLog → List (List (List ℕ)) → Verdict → Type 0
TellsFrom show opening m n before logs worlds (Legal events) = AllRight show opening m n logs worlds × (events ≡ before + event_count logs)
TellsFrom show opening m n before logs worlds (NotLegal mirror place why) = IsFirstFault show opening m n logs worlds mirror place why

tells_next : {W : Type 0} (show : Showing W) (opening : W) (m : MatchData) (n before : ℕ) (log : MirrorLog)
    (logs : List MirrorLog) (blocks : List (List ℕ)) (worlds : List (List (List ℕ))) (v : Verdict)
    → IsRight show opening m n log.events blocks
    → TellsFrom show opening m (n + 1) (before + length log.events) logs worlds v → TellsFrom show opening m n before (log ∷ logs) (blocks ∷ worlds) v
unfolding AllRight IsFirstFault event_count
tells_next show opening m n before log logs blocks worlds (Legal events) right tells = ((right, tells.0), (let count = tells.1 in omega arith))
tells_next show opening m n before log logs blocks worlds (NotLegal mirror place why) right tells = inr (right, tells)

verdict_tells : {W : Type 0} (show : Showing W) (opening : W) (m : MatchData) (n before : ℕ) (logs : List MirrorLog) (worlds : List (List (List ℕ))) → EachNumbered (IsLogOf m) n logs
    → TellsFrom show opening m n before logs worlds (verdict_from show opening m n before logs worlds)
unfolding verdict_from AllRight IsFirstFault event_count EachNumbered
verdict_tells show opening m n before [] worlds are = (tt, refl)
verdict_tells show opening m n before (log ∷ logs) [] are = (tt, refl)
verdict_tells {W} show opening m n before (log ∷ logs) (blocks ∷ worlds) are =
    by_fault (verdict_tells show opening m (n + 1) (before + length log.events) logs worlds are.1)
    (fault_of show opening m n log.events blocks) (mirror_found show opening m n log.events blocks are.0.events)
  where
    by_fault : TellsFrom show opening m (n + 1) (before + length log.events) logs worlds (verdict_from show opening m (n + 1) (before + length log.events) logs worlds)
        → (o : Option Fault) → Found show opening m n log.events blocks o
        → TellsFrom show opening m n before (log ∷ logs) (blocks ∷ worlds) (verdict_at n o (verdict_from show opening m (n + 1) (before + length log.events) logs worlds))
    by_fault rest None right = tells_next show opening m n before log logs blocks worlds (verdict_from show opening m (n + 1) (before + length log.events) logs worlds) right rest
    by_fault rest (Some fault) found = inl (refl, found)

legal_is : {W : Type 0} (show : Showing W) (opening : W) (m : MatchData) (n before events : ℕ) (logs : List MirrorLog)
    (worlds : List (List (List ℕ))) → AllRight show opening m n logs worlds → events ≡ before + event_count logs
    → Legal events ≡ verdict_from show opening m n before logs worlds
unfolding verdict_from AllRight event_count
legal_is show opening m n before events [] worlds right count = ap Legal count
legal_is show opening m n before events (log ∷ logs) [] right count = ap Legal count
legal_is show opening m n before events (log ∷ logs) (blocks ∷ worlds) right count =
    rw (mirror_right show opening m n log.events blocks right.0)
    (legal_is show opening m (n + 1) (before + length log.events) events logs worlds right.1 (omega (arith, count)))

first_fault-is : {W : Type 0} (show : Showing W) (opening : W) (m : MatchData) (n before : ℕ) (logs : List MirrorLog)
    (worlds : List (List (List ℕ))) (mirror place : ℕ) (why : Why)
    → IsFirstFault show opening m n logs worlds mirror place why
    → NotLegal mirror place why ≡ verdict_from show opening m n before logs worlds
unfolding verdict_from IsFirstFault
first_fault-is show opening m n before [] worlds mirror place why fault = absurd fault
first_fault-is show opening m n before (log ∷ logs) [] mirror place why fault = absurd fault
first_fault-is show opening m n before (log ∷ logs) (blocks ∷ worlds) mirror place why (inl here) =
    rw (mirror_fault show opening m n log.events blocks place why here.1) (λ i. NotLegal (here.0 i) place why)
first_fault-is show opening m n before (log ∷ logs) (blocks ∷ worlds) mirror place why (inr more) =
    rw (mirror_right show opening m n log.events blocks more.0) (first_fault-is show opening m (n + 1) (before + length log.events) logs worlds mirror place why more.1)

-- ---- a record

abbrev verdict_of : {W : Type 0} → Showing W → W → RaceRecord → Verdict
verdict_of show opening r = verdict_from show opening r.game 0 0 r.logs r.worlds

told_whole : {W : Type 0} (show : Showing W) (opening : W) (r : RaceRecord) (v : Verdict) → TellsFrom show opening r.game 0 0 r.logs r.worlds v → Tells show opening r v
told_whole show opening r (Legal events) tells = (tells.0, (let count = tells.1 in omega arith))
told_whole show opening r (NotLegal mirror place why) tells = tells

is_verdict : {W : Type 0} (show : Showing W) (opening : W) (r : RaceRecord) (v : Verdict) → Tells show opening r v → v ≡ verdict_of show opening r
is_verdict show opening r (Legal events) tells = legal_is show opening r.game 0 0 events r.logs r.worlds tells.0 (let count = tells.1 in omega arith)
is_verdict show opening r (NotLegal mirror place why) tells = first_fault-is show opening r.game 0 0 r.logs r.worlds mirror place why tells

-- some verdict tells of a record
pub some_verdict : {W : Type 0} (show : Showing W) (opening : W) (r : RaceRecord) → IsRecord r → (v : Verdict) × Tells show opening r v
some_verdict show opening r is = (verdict_of show opening r, told_whole show opening r (verdict_of show opening r) (verdict_tells show opening r.game 0 0 r.logs r.worlds is.logs))

-- and no other
pub one_verdict : {W : Type 0} (show : Showing W) (opening : W) (r : RaceRecord) (v w : Verdict) → Tells show opening r v → Tells show opening r w → v ≡ w
one_verdict show opening r v w tells also = is_verdict show opening r v tells ∙ sym (is_verdict show opening r w also)
