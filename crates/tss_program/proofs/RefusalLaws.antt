-- What a run wrote where the text was refused, the words were wrong, or a record isn't legal.
use Rattle.std.proofs.Common.{◌≡◌, true, false, Bool, ℕ, ◌<◌, ◌≤◌, ◌&&◌, ◌⊎◌, List, [], ◌∷◌, Option, Some, None, inl, inr, sym, ap, subst, refl, ◌∙◌, arith}
use Rattle.std.specs.Prelude.{nat_le}
use Rattle.std.specs.List.{list_all, Contains}
use Rattle.std.proofs.lemmas.Bool.Decides.{nat_tests}
use Rattle.std.proofs.lemmas.List.Elements.{Contains-push, Contains-append_left, Contains-append_right}
use Rattle.tss_io.specs.declared.fault.Refused.{Refused}
use Rattle.tss_io.specs.declared.fault.TextFault.TheVariants as text_faults
use Rattle.tss_io.specs.declared.cause.Cause.TheVariants.{Number}
use Rattle.tss_io.specs.Reading.{refused_at}
use Rattle.tss_io.specs.Streams.{Gains}
use Rattle.match_data.specs.Data.{MatchData}
use Rattle.match_file.specs.Reading.{IsFirst}
use Rattle.match_data.specs.declared.log.MirrorLog.{MirrorLog}
use Rattle.run_recorder.specs.declared.race_record.RaceRecord.{RaceRecord}
use Rattle.run_recorder.specs.Reading.{IsFirstOfRecord}
use Rattle.run_auditor.specs.declared.verdict.Verdict.{Verdict}
use Rattle.run_auditor.specs.declared.verdict.Verdict.TheVariants.{Legal, NotLegal}
use Rattle.run_auditor.specs.declared.why.Why.{Why}
use Rattle.run_auditor.specs.Verdicts.{verdict_text}
use Rattle.report_text.specs.Ends.{refused_text, usage_text}
use Rattle.match_join.specs.declared.answer.JoinAnswer.TheVariants.{Told, TooLate}
use Rattle.lossy_text.specs.Reading.{IsFirstOfLossy}
use Rattle.watch_board.specs.Behaviour.{Behaviour}
use Rattle.tss_words.specs.declared.subcommand.MatchTask.{MatchTask}
use Rattle.tss_words.specs.declared.subcommand.MatchTask.TheVariants.{Order, Play, Race, Lift, Score, PaintOrder, PaintPlay, Join, Rewind}
use Rattle.tss_words.specs.declared.subcommand.Subcommand.{Subcommand}
use Rattle.tss_words.specs.declared.subcommand.Subcommand.TheVariants.{OfMatch, Audit, Lossy, Soak}
use Rattle.tss_program.specs.declared.due.Due.{Due}
use Rattle.tss_program.specs.Due.{IsDueFor, answer, refusal, IsMatchText, IsNoMatch, IsMatchAnswer, IsRaced, raced, no_pace, IsJoined, joined, no_mirror}
use Rattle.tss_program.specs.Due.{IsRecordText, IsNoRecord, IsNoLossy, IsVerdictOf, IsAnswer, IsDueOf, complete, due_of_rewind, due_of_verdict, length_line, are_within, usage_due, refusal_due, code}
use Rattle.tss_program.specs.Run.{Run, asked, IsRun}
use Rattle.tss_program.specs.Promises.{LacksWhatIsAsked}
use Rattle.tss_program.proofs.AnswerLaws.{not}
use Rattle.tss_program.proofs.RunLaws.{by-due, told-due, asked-due, run-only_wrong_words, run-only_audited}

-- ---- a refusal that was written

-- the line of a refusal that is due was put
gained-refusal : (r : Run) (due : Due) (refused : Refused) → due ≡ refusal_due refused → Gains r.sink_old.bytes due.text r.sink_new.bytes
    → Gains r.sink_old.bytes (refused_text refused) r.sink_new.bytes
gained-refusal r due refused is gains = subst (λ (d : Due). Gains r.sink_old.bytes d.text r.sink_new.bytes) is gains

-- ---- a match that lacks what is asked

-- a tick is past the end, where not all are within
some-past : (n : ℕ) (ts : List ℕ) → list_all (λ t. nat_le t n) ts ≡ false → (t : ℕ) × Contains ts t × (n < t)
some-past n [] h = absurd cc
some-past n (t ∷ ts) h =
    elim (nat_le t n) as (λ v. nat_le t n ≡ v → (v && list_all (λ u. nat_le u n) ts) ≡ false → (u : ℕ) × Contains (t ∷ ts) u × (n < u)) [
      | true ↦ λ e rest. (let later = some-past n ts rest in (later.0, Contains-append_right (t ∷ []) ts later.0 later.1, later.2))
      | false ↦ λ e rest. (t, Contains-append_left (t ∷ []) ts t (Contains-push [] t), grind (arith, nat_tests))
    ]
    refl h

-- an answer that was made is no refusal
no-complete : (due : Due) (text : List ℕ) (kept : List MirrorLog) → due ≡ complete text kept → code due.status ≡ 5 → ⊥
no-complete due text kept is five = not 0 5 (code due.status) refl (ap (λ (d : Due). code d.status) is) five

-- a match is refused for what it lacks
refused-answer :
    (P : Type 0) (ws : List Behaviour) (task : MatchTask) (m : MatchData) (due : Due) → IsMatchAnswer ws task m due → code due.status ≡ 5
    → ((refused : Refused) → due ≡ refusal_due refused → LacksWhatIsAsked task m refused → P) → P
refused-answer P ws Order m due is five f = absurd (no-complete due _ _ is five)
refused-answer P ws Play m due is five f = absurd (no-complete due _ _ is five)
refused-answer P ws Race m due (raced mirrors pace is of fits) five f = absurd (not 0 5 (code due.status) refl (ap code is) five)
refused-answer P ws Race m due (no_pace pace is) five f = f _ is (pace, refl)
refused-answer P ws Lift m due is five f = absurd (no-complete due _ _ is five)
refused-answer P ws Score m due is five f = absurd (no-complete due _ _ is five)
refused-answer P ws PaintOrder m due is five f = absurd (no-complete due _ _ is five)
refused-answer P ws PaintPlay m due is five f = absurd (no-complete due _ _ is five)
refused-answer P ws (Join number lines) m due (joined (Told text) there told is) five f = absurd (no-complete due _ _ is five)
refused-answer P ws (Join number lines) m due (joined (TooLate text) there told is) five f = absurd (not 7 5 (code due.status) refl (ap (λ (d : Due). code d.status) is) five)
refused-answer P ws (Join number lines) m due (no_mirror none is) five f = f _ is (none, refl)
refused-answer P ws (Rewind every room ticks) m due is five f = by (are_within m ticks) refl
  where
    by : (within : Bool) → are_within m ticks ≡ within → P
    by true h = absurd (let made : code (due_of_rewind room ticks m).status ≡ 0 = rw h refl in not 0 5 (code due.status) refl (ap (λ (d : Due). code d.status) is ∙ made) five)
    by false h =
        (let made : due_of_rewind room ticks m ≡ refusal_due (refused_at length_line Number) = rw h refl in
        let past = some-past m.length ticks h in
        f (refused_at length_line Number) (is ∙ made) ((past.0, past.1, past.2), refl))

-- ---- what a refusal tells

-- of words that read a match
abbrev RefusesMatch : Run → List ℕ → MatchTask → Type 0
RefusesMatch r input task =
    (refused : Refused) × Gains r.sink_old.bytes (refused_text refused) r.sink_new.bytes
    × ((IsNoMatch input × IsFirst input (text_faults.Refused refused)) ⊎ ((m : MatchData) × IsMatchText m input × LacksWhatIsAsked task m refused))

pub run-refuses-match : (r : Run) (input : List ℕ) (task : MatchTask) → IsRun r → asked r ≡ Some (OfMatch task) → r.source_old.left ≡ Some input → r.status ≡ 5 → RefusesMatch r input task
run-refuses-match r input task run asks told five = by-due (RefusesMatch r input task) r 5 run refl refl refl five
    (λ due has is kept gains. by due is gains (asked-due r (OfMatch task) input due asks (told-due r input due told has)))
  where
    by : (due : Due) → code due.status ≡ 5 → Gains r.sink_old.bytes due.text r.sink_new.bytes → IsAnswer r.watchers (OfMatch task) input due → RefusesMatch r input task
    by due is gains (answer m text has) =
        refused-answer (RefusesMatch r input task) r.watchers task m due has is (λ refused same lacks. (refused, gained-refusal r due refused same gains, inr (m, text, lacks)))
    by due is gains (refusal refused lacks same) = (refused, gained-refusal r due refused same gains, inl (lacks.no_match, lacks.first))

-- a verdict is no refusal
no-verdict-refusal : (due : Due) (verdict : Verdict) → due ≡ due_of_verdict verdict → code due.status ≡ 5 → ⊥
no-verdict-refusal due (Legal events) is five = not 0 5 (code due.status) refl (ap (λ (d : Due). code d.status) is) five
no-verdict-refusal due (NotLegal mirror place why) is five = not 6 5 (code due.status) refl (ap (λ (d : Due). code d.status) is) five

-- of `audit`
abbrev RefusesRecord : Run → List ℕ → Type 0
RefusesRecord r input =
    (refused : Refused) × Gains r.sink_old.bytes (refused_text refused) r.sink_new.bytes × IsNoRecord input × IsFirstOfRecord input (text_faults.Refused refused)

pub run-refuses-record : (r : Run) (input : List ℕ) → IsRun r → asked r ≡ Some Audit → r.source_old.left ≡ Some input → r.status ≡ 5 → RefusesRecord r input
run-refuses-record r input run asks told five = by-due (RefusesRecord r input) r 5 run refl refl refl five
    (λ due has is kept gains. by due is gains (asked-due r Audit input due asks (told-due r input due told has)))
  where
    by : (due : Due) → code due.status ≡ 5 → Gains r.sink_old.bytes due.text r.sink_new.bytes → IsAnswer r.watchers Audit input due → RefusesRecord r input
    by due is gains (answer q text audited) = absurd (no-verdict-refusal due audited.0 audited.2 is)
    by due is gains (refusal refused lacks same) = (refused, gained-refusal r due refused same gains, lacks.no_record, lacks.first)

-- of `lossy`
abbrev RefusesLossy : Run → List ℕ → Type 0
RefusesLossy r input =
    (refused : Refused) × Gains r.sink_old.bytes (refused_text refused) r.sink_new.bytes × IsNoLossy input × IsFirstOfLossy input (text_faults.Refused refused)

pub run-refuses-lossy : (r : Run) (input : List ℕ) → IsRun r → asked r ≡ Some Lossy → r.source_old.left ≡ Some input → r.status ≡ 5 → RefusesLossy r input
run-refuses-lossy r input run asks told five = by-due (RefusesLossy r input) r 5 run refl refl refl five
    (λ due has is kept gains. by due is gains (asked-due r Lossy input due asks (told-due r input due told has)))
  where
    by : (due : Due) → code due.status ≡ 5 → Gains r.sink_old.bytes due.text r.sink_new.bytes → IsAnswer r.watchers Lossy input due → RefusesLossy r input
    by due is gains (answer x text same) = absurd (no-complete due _ _ same is)
    by due is gains (refusal refused lacks same) = (refused, gained-refusal r due refused same gains, lacks.no_lossy, lacks.first)

-- only words that read a text refuse one
abbrev AsksToRead : Option Subcommand → Type 0
AsksToRead what = ((task : MatchTask) × (what ≡ Some (OfMatch task))) ⊎ (what ≡ Some Audit) ⊎ (what ≡ Some Lossy)

pub run-only_reading : (r : Run) → IsRun r → r.status ≡ 5 → AsksToRead (asked r)
run-only_reading r run five = by-due (AsksToRead (asked r)) r 5 run refl refl refl five (λ due has is kept gains. by (asked r) refl has.input due is has.holds)
  where
    by : (what : Option Subcommand) → asked r ≡ what → (input : List ℕ) (due : Due) → code due.status ≡ 5 → IsDueOf r.watchers what input due → AsksToRead (asked r)
    by None asks input due is same = absurd (not 2 5 (code due.status) refl (ap (λ (d : Due). code d.status) same) is)
    by (Some (OfMatch task)) asks input due is holds = inl (task, asks)
    by (Some Audit) asks input due is holds = inr (inl asks)
    by (Some Lossy) asks input due is holds = inr (inr asks)
    by (Some (Soak n)) asks input due is same = absurd (no-complete due _ _ same is)

-- what a match lacks, by the words
abbrev Lacks : MatchTask → MatchData → Refused → Type 0
Lacks task m refused =
    ((task ≡ Race) × (m.pace ≡ 0) × (refused ≡ refused_at 6 Number))
    ⊎ ((number : ℕ) × (lines : ℕ) × (task ≡ Join number lines) × (m.mirrors ≤ number) × (refused ≡ refused_at 4 Number))
    ⊎ ((every : ℕ) × (room : ℕ) × (ticks : List ℕ) × (task ≡ Rewind every room ticks) × ((tick : ℕ) × Contains ticks tick × (m.length < tick)) × (refused ≡ refused_at 2 Number))

pub lacks-by : (task : MatchTask) (m : MatchData) (refused : Refused) → LacksWhatIsAsked task m refused → Lacks task m refused
lacks-by Order m refused lacks = absurd lacks
lacks-by Play m refused lacks = absurd lacks
lacks-by Race m refused lacks = inl (refl, lacks.0, lacks.1)
lacks-by Lift m refused lacks = absurd lacks
lacks-by Score m refused lacks = absurd lacks
lacks-by PaintOrder m refused lacks = absurd lacks
lacks-by PaintPlay m refused lacks = absurd lacks
lacks-by (Join number lines) m refused lacks = inr (inl (number, lines, refl, lacks.0, lacks.1))
lacks-by (Rewind every room ticks) m refused lacks = inr (inr (every, room, ticks, refl, lacks.0, lacks.1))

-- ---- the other lines that tell why

pub run-usage : (r : Run) → IsRun r → r.status ≡ 2 → Gains r.sink_old.bytes usage_text r.sink_new.bytes
run-usage r run two = by-due (Gains r.sink_old.bytes usage_text r.sink_new.bytes) r 2 run refl refl refl two (λ due has is kept gains.
    subst (λ (d : Due). Gains r.sink_old.bytes d.text r.sink_new.bytes)
    (subst (λ (o : Option Subcommand). IsDueOf r.watchers o has.input due) (run-only_wrong_words r run two) has.holds) gains)

-- a verdict that a record isn't legal
abbrev TellsFault : Run → List ℕ → Type 0
TellsFault r input =
    (q : RaceRecord) × (mirror : ℕ) × (place : ℕ) × (why : Why) × IsRecordText q input × IsVerdictOf q (NotLegal mirror place why)
    × Gains r.sink_old.bytes (verdict_text (NotLegal mirror place why)) r.sink_new.bytes

tells-fault :
    (r : Run) (input : List ℕ) (q : RaceRecord) (verdict : Verdict) (due : Due) → IsRecordText q input → IsVerdictOf q verdict → due ≡ due_of_verdict verdict → code due.status ≡ 6
    → Gains r.sink_old.bytes due.text r.sink_new.bytes → TellsFault r input
tells-fault r input q (Legal events) due text tells is six gains = absurd (not 0 6 (code due.status) refl (ap (λ (d : Due). code d.status) is) six)
tells-fault r input q (NotLegal mirror place why) due text tells is six gains =
    (q, mirror, place, why, text, tells, subst (λ (d : Due). Gains r.sink_old.bytes d.text r.sink_new.bytes) is gains)

pub run-verdict : (r : Run) (input : List ℕ) → IsRun r → r.source_old.left ≡ Some input → r.status ≡ 6 → TellsFault r input
run-verdict r input run told six = by-due (TellsFault r input) r 6 run refl refl refl six
    (λ due has is kept gains. by due is gains (asked-due r Audit input due (run-only_audited r run six) (told-due r input due told has)))
  where
    by : (due : Due) → code due.status ≡ 6 → Gains r.sink_old.bytes due.text r.sink_new.bytes → IsAnswer r.watchers Audit input due → TellsFault r input
    by due is gains (answer q text audited) = tells-fault r input q audited.0 due text audited.1 audited.2 is gains
    by due is gains (refusal refused lacks same) = absurd (not 5 6 (code due.status) refl (ap (λ (d : Due). code d.status) same) is)
