-- What a walk, the worlds of a mirror, and all mirrors tell of a record.
use Rattle.std.proofs.Common.{◌≡◌, ◌↔◌, inl, inr, length, ℕ, ◌+◌, ◌*◌, ◌≤◌, true, false, List, [], ◌∷◌, ◌++◌, Some, None, refl, ap, sym, subst, ◌∙◌, append_assoc, append-nil, arith}
use Rattle.std.specs.Prelude.{bytes_eq}
use Rattle.std.specs.List.{AllByRecursion}
use Rattle.std.proofs.lemmas.Slice.Eq.{bytes_eq-Decides}
use Rattle.game_trait.specs.declared.event.Event.{Event}
use Rattle.game_trait.specs.declared.event.Note.{Note as NoteOf}
use Rattle.sync_model.specs.State.{MirrorState}
use Rattle.sync_model.specs.Change.{next, said, changes, after}
use Rattle.sync_model.specs.Consistent.{IsConsistent}
use Rattle.sync_model.specs.History.{EachChanges, first_state, without_room}
use Rattle.sync_model.specs.Legal.{IsLegal}
use Rattle.sync_model.proofs.History.{history-next}
use Rattle.sync_model.proofs.Room.{said-same, from_history_reached, first-next}
use Rattle.match_data.specs.Data.{MatchData}
use Rattle.match_data.specs.declared.log.MirrorLog.{MirrorLog}
use Rattle.run_recorder.specs.declared.race_record.RaceRecord.{RaceRecord}
use Rattle.run_recorder.specs.Data.{EachNumbered, IsEventOf, IsLogOf, AreWorldsOf, IsRecord}
use Rattle.run_auditor.specs.declared.verdict.Verdict.{Verdict}
use Rattle.run_auditor.specs.declared.verdict.Verdict.TheVariants.{Legal, NotLegal}
use Rattle.run_auditor.specs.declared.walk.Walked.TheVariants.{Note}
use Rattle.run_auditor.specs.declared.why.Fault.{Fault}
use Rattle.run_auditor.specs.declared.why.Why.{Why}
use Rattle.run_auditor.specs.declared.why.Why.TheVariants as whys
use Rattle.run_auditor.specs.Audit.{start, IsStated, IsRight, IsStuckAt, IsFirstWrong, IsFault, Found, FoundFalse, AllRight, IsFirstFault, event_count, IsLegalRecord, Tells, says_legal}
use Rattle.run_auditor.specs.Walks.{why_of, LogWalk, walk_of, told_of_event, told_next, moved, moved_on, WentOn, Stopped}
use Rattle.run_auditor.proofs.WalkLaws.{why_changes, why_stays, events_named, opened_copies}
use Rattle.report_text.specs.Worlds.{Showing, copy_block}
use Rattle.sync_model.specs.Drafts.{run_of}

-- ---- a walk

went_further : {W : Type 0} (w v : LogWalk W) (e : Event) (es : List Event) → v.left ≡ e ∷ es → changes v.mirror e ≡ true → WentOn w v → WentOn w (record v { mirror = next v.mirror e; left = es })
went_further w v e es left changed on =
    let history : (next v.mirror e).history ≡ v.mirror.history ++ e ∷ [] = history-next v.mirror e ∙ rw changed refl in
    record {
      number = on.number;
      begun = first-next v.mirror e ∙ on.begun;
      log = ap (λ (h : List Event). h ++ es) history ∙ append_assoc v.mirror.history (e ∷ []) es ∙ ap (λ (l : List Event). v.mirror.history ++ l) (sym left) ∙ on.log;
    }

-- an event that changes the mirror
pub note_moves : {W : Type 0} (w v : LogWalk W) (left : List Event) (note : NoteOf) → v.left ≡ left → told_next v left
    ≡ Note note → WentOn w v → WentOn w (moved_on v left) × (length (moved_on v left).left + 1 ≡ length left)
note_moves w v [] note here e on = absurd cc
note_moves w v (x ∷ xs) note here e on =
    elim (why_of (said v.mirror x)) as (λ o. why_of (said v.mirror x) ≡ o → told_of_event v x o ≡ Note note → WentOn w (moved v x xs o) × (length (moved v x xs o).left + 1 ≡ length (x ∷ xs))) [
      | None ↦ λ none e. (went_further w v x xs here (why_changes (said v.mirror x) none) on, omega arith)
      | Some why ↦ λ some e. absurd cc
    ] refl e

-- ---- the worlds of a mirror

pub other_bytes : (a b : List ℕ) → bytes_eq a b ≡ false → a ≡ b → ⊥
other_bytes a b e same = let k = (bytes_eq-Decides a b).1 same in absurd cc

-- what the items from here on tell of all of them
pub record ItemsOn {A : Type 0} (Is : ℕ → A → Type 0) (n : ℕ) (rest all : List A) : Type 0 where
  pub right : EachNumbered Is n rest → EachNumbered Is 0 all
  pub wrong : (place : ℕ) → IsFirstWrong Is n rest place → IsFirstWrong Is 0 all place
  pub count : n + length rest ≡ length all

pub items_next : {A : Type 0} (Is : ℕ → A → Type 0) (n : ℕ) (rest more all : List A) (a : A) → rest ≡ a ∷ more → Is n a → ItemsOn Is n rest all → ItemsOn Is (n + 1) more all
unfolding EachNumbered IsFirstWrong
items_next Is n rest more all a here right on =
    let count = on.count in
    let longer : length rest ≡ length more + 1 = ap length here ∙ omega arith in
    record {
      right = λ h. on.right (rw here (right, h));
      wrong = λ p h. on.wrong p (rw here (inr (right, h)));
      count = omega (arith, longer);
    }

pub items_wrong : {A : Type 0} (Is : ℕ → A → Type 0) (n : ℕ) (rest more all : List A) (a : A) → rest ≡ a ∷ more → (Is n a → ⊥) → ItemsOn Is n rest all → IsFirstWrong Is 0 all n
unfolding IsFirstWrong
items_wrong Is n rest more all a here wrong on = on.wrong n (rw here (inl (refl, wrong)))

pub items_end : {A : Type 0} (Is : ℕ → A → Type 0) (n : ℕ) (rest all : List A) → length rest ≡ 0 → ItemsOn Is n rest all → EachNumbered Is 0 all
unfolding EachNumbered
items_end Is n [] all none on = on.right tt
items_end Is n (a ∷ rest) all none on = absurd (omega arith)

-- ---- one mirror

-- a mirror that walked is, its room left out, the one that the log leads to
reached_start : {W : Type 0} (opening : W) (m : MatchData) (s : MirrorState W) → IsConsistent s → first_state s ≡ start opening m → without_room s ≡ without_room (after (start opening m) s.history)
reached_start opening m s is begun = from_history_reached s is.from_history ∙ ap (λ t. without_room (after t s.history)) begun

pub found_stuck : {W : Type 0} (show : Showing W) (opening : W) (m : MatchData) (number : ℕ) (log : List Event) (blocks : List (List ℕ)) (w : LogWalk W) (fault : Fault)
    → IsConsistent w.mirror → WentOn (walk_of opening m number log) w → Stopped w (Some fault) → Found show opening m number log blocks (Some fault)
found_stuck show opening m number log blocks w fault is on stopped =
    let s = w.mirror in
    let e = stopped.0 in
    let begun : first_state s ≡ start opening m = on.begun in
    let before : EachChanges (start opening m) s.history = subst (λ t. EachChanges t s.history) begun is.each_changes in
    let answer = said-same s (after (start opening m) s.history) e (reached_start opening m s is begun) in
    inl (record {
      front = s.history;
      event = e;
      rest = stopped.1;
      whole = sym on.log ∙ ap (λ (l : List Event). s.history ++ l) stopped.2;
      here = stopped.3;
      before = before;
      stuck = ap why_of (sym answer) ∙ stopped.4;
    })

legal_log : {W : Type 0} (opening : W) (m : MatchData) (number : ℕ) (log : List Event) (w : LogWalk W)
    → AllByRecursion (IsEventOf m) log → IsConsistent w.mirror → WentOn (walk_of opening m number log) w → w.left ≡ []
    → (w.mirror.history ≡ log) × IsLegal m.commands (start opening m) log
legal_log opening m number log w events is on ended =
    let s = w.mirror in
    let begun : first_state s ≡ start opening m = on.begun in
    let whole : s.history ≡ log = sym (append-nil s.history) ∙ ap (λ (l : List Event). s.history ++ l) (sym ended) ∙ on.log in
    let before : EachChanges (start opening m) s.history = subst (λ t. EachChanges t s.history) begun is.each_changes in
    (whole, record { changes = subst (EachChanges (start opening m)) whole before; there = events_named m (start opening m) log refl (opened_copies opening m 0 0) events })

-- the worlds of the mirror are those after the log
stated_alike : {W : Type 0} (show : Showing W) (opening : W) (m : MatchData) (number : ℕ) (log : List Event)
    (s : MirrorState W) → IsConsistent s → first_state s ≡ start opening m → s.history ≡ log → IsStated show number s
    ≡ IsStated show number (after (start opening m) log)
stated_alike show opening m number log s is begun whole =
    let same = reached_start opening m s is begun ∙ ap (λ h. without_room (after (start opening m) h)) whole in
    λ i copy block. block ≡ copy_block show number (same i).opening copy (run_of (same i) copy)

pub found_false : {W : Type 0} (show : Showing W) (opening : W) (m : MatchData) (number : ℕ) (log : List Event) (blocks : List (List ℕ)) (w : LogWalk W) (copy : ℕ) → AllByRecursion (IsEventOf m) log
    → IsConsistent w.mirror → WentOn (walk_of opening m number log) w → Stopped w None
    → FoundFalse show number w.mirror blocks (Some copy)
    → Found show opening m number log blocks (Some (record { place = copy; why = whys.World }))
found_false show opening m number log blocks w copy events is on stopped wrong =
    let legal = legal_log opening m number log w events is on stopped in
    inr (record { legal = legal.1; cause = refl; world = subst (λ Is. IsFirstWrong Is 0 blocks copy) (stated_alike show opening m number log w.mirror is on.begun legal.0) wrong })

pub found_right : {W : Type 0} (show : Showing W) (opening : W) (m : MatchData) (number : ℕ) (log : List Event) (blocks : List (List ℕ)) (w : LogWalk W) → AllByRecursion (IsEventOf m) log
    → IsConsistent w.mirror → WentOn (walk_of opening m number log) w → Stopped w None → FoundFalse show number w.mirror blocks None → Found show opening m number log blocks None
found_right show opening m number log blocks w events is on stopped right =
    let legal = legal_log opening m number log w events is on stopped in
    record { legal = legal.1; worlds = subst (λ Is. EachNumbered Is 0 blocks) (stated_alike show opening m number log w.mirror is on.begun legal.0) right }

-- ---- all mirrors

-- what the mirrors from here on tell of all of them
pub record MirrorsOn {W : Type 0} (show : Showing W) (opening : W) (m : MatchData) (logs : List MirrorLog)
    (worlds : List (List (List ℕ))) (all_logs : List MirrorLog) (all_worlds : List (List (List ℕ))) (events : ℕ) :
    Type 0 where
  pub number : ℕ
  pub right : AllRight show opening m number logs worlds → AllRight show opening m 0 all_logs all_worlds
  pub fault : (mirror place : ℕ) (why : Why) → IsFirstFault show opening m number logs worlds mirror place why → IsFirstFault show opening m 0 all_logs all_worlds mirror place why
  pub counted : events + event_count logs ≡ event_count all_logs
  pub few : event_count all_logs ≤ 1048576
  pub level : length worlds ≡ length logs
  pub are : EachNumbered (IsLogOf m) number logs
  pub stated : EachNumbered (AreWorldsOf m) number worlds

few_events : (m : MatchData) (n : ℕ) (logs : List MirrorLog) → EachNumbered (IsLogOf m) n logs → event_count logs ≤ 131072 * length logs
unfolding EachNumbered event_count
few_events m n [] are = omega arith
few_events m n (log ∷ logs) are = let few = are.0.few in let more = few_events m (n + 1) logs are.1 in omega arith

pub mirrors_begin : {W : Type 0} (show : Showing W) (opening : W) (r : RaceRecord) → IsRecord r → MirrorsOn show opening r.game r.logs r.worlds r.logs r.worlds 0
mirrors_begin show opening r is =
    let few = few_events r.game 0 r.logs is.logs in
    let count = is.log_count in
    let most = is.game.mirrors.1 in
    record {
      number = 0;
      right = λ h. h;
      fault = λ mirror place why h. h;
      counted = omega arith;
      few = omega (arith, few, count, most);
      level = is.world_count ∙ sym is.log_count;
      are = is.logs;
      stated = is.worlds;
    }

-- the next mirror's log and worlds are those of the record
pub record NextIs (m : MatchData) (n : ℕ) (log : MirrorLog) (blocks : List (List ℕ)) : Type 0 where
  pub log_of : IsLogOf m n log
  pub worlds_of : AreWorldsOf m n blocks

pub mirrors_there : {W : Type 0} (show : Showing W) (opening : W) (m : MatchData) (logs others : List MirrorLog)
    (worlds further : List (List (List ℕ))) (log : MirrorLog) (blocks : List (List ℕ)) (all_logs : List MirrorLog)
    (all_worlds : List (List (List ℕ))) (events : ℕ)
    → logs ≡ log ∷ others → worlds ≡ blocks ∷ further → (on : MirrorsOn show opening m logs worlds all_logs all_worlds events) → NextIs m on.number log blocks
unfolding EachNumbered
mirrors_there show opening m logs others worlds further log blocks all_logs all_worlds events some shown on =
    record { log_of = (subst (EachNumbered (IsLogOf m) on.number) some on.are).0; worlds_of = (subst (EachNumbered (AreWorldsOf m) on.number) shown on.stated).0 }

pub mirrors_next : {W : Type 0} (show : Showing W) (opening : W) (m : MatchData) (logs others : List MirrorLog)
    (worlds further : List (List (List ℕ))) (log : MirrorLog) (blocks : List (List ℕ)) (all_logs : List MirrorLog)
    (all_worlds : List (List (List ℕ))) (events : ℕ)
    → logs ≡ log ∷ others → worlds ≡ blocks ∷ further → Found show opening m log.mirror log.events blocks None
    → MirrorsOn show opening m logs worlds all_logs all_worlds events
    → MirrorsOn show opening m others further all_logs all_worlds (events + length log.events)
unfolding EachNumbered AllRight IsFirstFault event_count
mirrors_next show opening m logs others worlds further log blocks all_logs all_worlds events some shown found on =
    let next = mirrors_there show opening m logs others worlds further log blocks all_logs all_worlds events some shown on in
    let here : IsRight show opening m on.number log.events blocks = subst (λ n. IsRight show opening m n log.events blocks) next.log_of.mirror found in
    let counted = on.counted in
    let level = on.level in
    let more : event_count logs ≡ length log.events + event_count others = ap event_count some in
    let one : length logs ≡ length others + 1 = ap length some ∙ omega arith in
    let other : length worlds ≡ length further + 1 = ap length shown ∙ omega arith in
    record {
      number = on.number + 1;
      right = λ h. on.right (rw (some, shown) (here, h));
      fault = λ mirror place why h. on.fault mirror place why (rw (some, shown) (inr (here, h)));
      counted = omega (arith, more);
      few = on.few;
      level = omega (arith, one, other);
      are = (subst (EachNumbered (IsLogOf m) on.number) some on.are).1;
      stated = (subst (EachNumbered (AreWorldsOf m) on.number) shown on.stated).1;
    }

pub mirrors_fault : {W : Type 0} (show : Showing W) (opening : W) (m : MatchData) (logs others : List MirrorLog)
    (worlds further : List (List (List ℕ))) (log : MirrorLog) (blocks : List (List ℕ)) (all_logs : List MirrorLog)
    (all_worlds : List (List (List ℕ))) (events : ℕ) (fault : Fault)
    → logs ≡ log ∷ others → worlds ≡ blocks ∷ further → Found show opening m log.mirror log.events blocks (Some fault)
    → MirrorsOn show opening m logs worlds all_logs all_worlds events
    → IsFirstFault show opening m 0 all_logs all_worlds log.mirror fault.place fault.why
unfolding IsFirstFault
mirrors_fault show opening m logs others worlds further log blocks all_logs all_worlds events fault some shown found on =
    let next = mirrors_there show opening m logs others worlds further log blocks all_logs all_worlds events some shown on in
    let here : IsFault show opening m on.number log.events blocks fault.place fault.why = subst (λ n. IsFault show opening m n log.events blocks fault.place fault.why) next.log_of.mirror found in
    on.fault log.mirror fault.place fault.why (rw (some, shown) (inl (next.log_of.mirror, here)))

pub mirrors_end : {W : Type 0} (show : Showing W) (opening : W) (m : MatchData) (logs : List MirrorLog)
    (worlds : List (List (List ℕ))) (all_logs : List MirrorLog) (all_worlds : List (List (List ℕ))) (events : ℕ)
    → length logs ≡ 0
    → MirrorsOn show opening m logs worlds all_logs all_worlds events → AllRight show opening m 0 all_logs all_worlds × (events ≡ event_count all_logs)
unfolding AllRight event_count
mirrors_end show opening m [] worlds all_logs all_worlds events none on = let counted = on.counted in (on.right tt, omega arith)
mirrors_end show opening m (log ∷ logs) worlds all_logs all_worlds events none on = absurd (omega arith)

-- the count so far is small
pub events_small : {W : Type 0} (show : Showing W) (opening : W) (m : MatchData) (logs others : List MirrorLog)
    (worlds : List (List (List ℕ))) (log : MirrorLog) (all_logs : List MirrorLog) (all_worlds : List (List (List ℕ)))
    (events : ℕ) → logs ≡ log ∷ others → MirrorsOn show opening m logs worlds all_logs all_worlds events → events
    + length log.events ≤ 1048576
unfolding event_count
events_small show opening m logs others worlds log all_logs all_worlds events some on =
    let counted = on.counted in
    let few = on.few in
    let more : event_count logs ≡ length log.events + event_count others = ap event_count some in
    omega (arith, more)

-- ---- a fault excludes that all is right

changes_at : {W : Type 0} (s : MirrorState W) (front : List Event) (e : Event) (rest : List Event) → EachChanges s (front ++ e ∷ rest) → changes (after s front) e ≡ true
unfolding EachChanges after
changes_at s [] e rest h = h.0
changes_at s (x ∷ front) e rest h = changes_at (next s x) front e rest h.1

pub not_stuck : {W : Type 0} (s : MirrorState W) (log : List Event) (place : ℕ) (why : Why) → EachChanges s log → IsStuckAt s log place why → ⊥
not_stuck s log place why each at =
    let changed = changes_at s at.front at.event at.rest (subst (EachChanges s) at.whole each) in
    let same = why_stays (said (after s at.front) at.event) why at.stuck in
    absurd cc

pub not_wrong : {A : Type 0} (Is : ℕ → A → Type 0) (n : ℕ) (xs : List A) (place : ℕ) → EachNumbered Is n xs → IsFirstWrong Is n xs place → ⊥
unfolding EachNumbered IsFirstWrong
not_wrong Is n [] place each wrong = wrong
not_wrong Is n (a ∷ xs) place each wrong = elim wrong [ inl here ↦ here.1 each.0 | inr more ↦ not_wrong Is (n + 1) xs place each.1 more.1 ]

not_both : {W : Type 0} (show : Showing W) (opening : W) (m : MatchData) (number : ℕ) (log : List Event)
    (blocks : List (List ℕ)) (place : ℕ) (why : Why) → IsRight show opening m number log blocks
    → IsFault show opening m number log blocks place why → ⊥
not_both show opening m number log blocks place why right fault = elim fault [
  | inl stuck ↦ not_stuck (start opening m) log place why right.legal.changes stuck
  | inr wrong ↦ not_wrong _ 0 blocks place right.worlds wrong.world
]

no_fault : {W : Type 0} (show : Showing W) (opening : W) (m : MatchData) (n : ℕ) (logs : List MirrorLog)
    (worlds : List (List (List ℕ))) (mirror place : ℕ) (why : Why) → AllRight show opening m n logs worlds
    → IsFirstFault show opening m n logs worlds mirror place why → ⊥
unfolding AllRight IsFirstFault
no_fault show opening m n [] worlds mirror place why right fault = fault
no_fault show opening m n (log ∷ logs) [] mirror place why right fault = fault
no_fault show opening m n (log ∷ logs) (blocks ∷ worlds) mirror place why right fault = elim fault [
  | inl here ↦ not_both show opening m n log.events blocks place why right.0 here.1
  | inr more ↦ no_fault show opening m (n + 1) logs worlds mirror place why right.1 more.1
]

-- a verdict says that a record is legal exactly where it is
pub says_exactly : {W : Type 0} (show : Showing W) (opening : W) (r : RaceRecord) (v : Verdict) → Tells show opening r v → (says_legal v ≡ true) ↔ IsLegalRecord show opening r
says_exactly show opening r (Legal events) tells = (λ _. tells.0, λ _. refl)
says_exactly show opening r (NotLegal mirror place why) tells = (λ e. absurd cc, λ right. absurd (no_fault show opening r.game 0 r.logs r.worlds mirror place why right tells))
