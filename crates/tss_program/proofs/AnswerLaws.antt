-- What is due: one answer for any words but `race`, with its status and what it keeps.
use Rattle.std.proofs.Common.{◌≡◌, true, false, Bool, ℕ, zero, suc, ◌<◌, ◌≤◌, ◌⊎◌, List, [], Option, Some, None, inl, inr, sym, ap, subst, refl, ◌∙◌, arith}
use Rattle.std.specs.Prelude.{nat_eq, nat_lt}
use Rattle.std.proofs.lemmas.Bool.Decides.{nat_tests}
use Rattle.tss_io.specs.declared.cause.Cause.TheVariants.{Number}
use Rattle.tss_io.specs.declared.fault.Refused.{Refused}
use Rattle.tss_io.specs.Reading.{refused_at}
use Rattle.sync_model.specs.State.{MirrorState}
use Rattle.arena_rules.specs.World.{World, opening_world, arena_rules}
use Rattle.match_data.specs.Data.{MatchData, IsMatch}
use Rattle.match_file.specs.Text.{match_text}
use Rattle.match_hall.specs.Script.{played, logs_from}
use Rattle.match_hall.proofs.Headline.{played-AllPlayed}
use Rattle.run_recorder.specs.declared.race_record.RaceRecord.{RaceRecord}
use Rattle.run_recorder.specs.Text.{record_text}
use Rattle.race_hall.proofs.SomeRace.{some_raced}
use Rattle.run_auditor.specs.declared.verdict.Verdict.{Verdict}
use Rattle.run_auditor.specs.declared.verdict.Verdict.TheVariants.{Legal, NotLegal}
use Rattle.run_auditor.proofs.AuditLaws.{says_exactly}
use Rattle.run_auditor.proofs.VerdictLaws.{some_verdict, one_verdict}
use Rattle.match_maker.specs.Generator.{match_of_number}
use Rattle.match_maker.proofs.Sound.{IsMatch-match_of_number}
use Rattle.match_data.specs.declared.log.MirrorLog.{MirrorLog}
use Rattle.run_auditor.specs.Audit.{IsLegalRecord, event_count}
use Rattle.tss_race.specs.Record.{IsRecordOfRace, record_of}
use Rattle.tss_race.proofs.LegalLaws.{record_legal}
use Rattle.tss_race.proofs.ArenaLaws.{arena_record}
use Rattle.watch_board.specs.Behaviour.{Behaviour}
use Rattle.tss_words.specs.declared.subcommand.MatchTask.{MatchTask}
use Rattle.tss_words.specs.declared.subcommand.MatchTask.TheVariants.{Order, Play, Race, Lift, Score, PaintOrder, PaintPlay, Join, Rewind}
use Rattle.tss_words.specs.declared.subcommand.Subcommand.{Subcommand}
use Rattle.tss_words.specs.declared.subcommand.Subcommand.TheVariants.{OfMatch, Audit, Lossy, Soak}
use Rattle.paint_rules.specs.World.{paint_rules}
use Rattle.paint_rules.specs.Scene.{opening as opening_paint}
use Rattle.match_join.specs.declared.answer.JoinAnswer.{JoinAnswer}
use Rattle.match_join.specs.declared.answer.JoinAnswer.TheVariants.{Told, TooLate}
use Rattle.match_join.specs.Join.{IsTold}
use Rattle.match_join.proofs.ToldLaws.{one_told, some_told}
use Rattle.lossy_text.specs.Data.{LossyData, IsLossy}
use Rattle.lossy_link.proofs.Ended.{net-ended}
use Rattle.tss_program.specs.declared.status.Status.{Status}
use Rattle.tss_program.specs.declared.status.Status.TheVariants.{Complete, WrongWords, Refusal, NotLegal as NotLegalRecord, TooLate as NoTickLeft}
use Rattle.tss_program.specs.declared.due.Due.{Due}
use Rattle.tss_words.specs.Subcommands.{is_race, races}
use Rattle.tss_program.specs.Due.{IsDueFor, answer, refusal, IsMatchText, IsMatchAnswer, IsRaced, raced, no_pace, pace_line, IsJoined, joined}
use Rattle.tss_program.specs.Due.{no_mirror, mirrors_line, due_of_join, due_of_rewind, are_within, due_of_lossy, net_of, complete, order_text}
use Rattle.tss_program.specs.Due.{arena_shown, IsRecordText, IsAudited, IsAnswer, IsDueOf, due_of_number, usage_due, refusal_due, code, IsVerdictOf}
use Rattle.tss_program.specs.Due.{status_of, due_of_verdict}
use Rattle.tss_program.specs.Promises.{keeps_logs, KeepsPlayed, KeepsPainted, KeepsNet, Keeps, SaysIfLegal, IsLegalAnswer}
use Rattle.tss_program.proofs.Texts.{one-for, some-for, match-exact, record-exact, lossy-exact}

-- ---- numbers

pub not : (n m status : ℕ) → nat_eq n m ≡ false → status ≡ n → status ≡ m → ⊥
not n m status apart is other = (let same : n ≡ m = sym is ∙ other in grind (arith, nat_tests))

-- ---- one answer

-- of a match of which a mirror is joined

one-joined : (number lines : ℕ) (m : MatchData) (a b : Due) → IsJoined number lines m a → IsJoined number lines m b → a ≡ b
one-joined number lines m a b (joined x there told is) (joined y here also its) =
    is ∙ ap (λ (z : JoinAnswer). due_of_join z) (one_told (arena_shown m) (opening_world m.layout) m number lines x y told also) ∙ sym its
one-joined number lines m a b (joined x there told is) (no_mirror none its) = absurd (omega (arith, there, none))
one-joined number lines m a b (no_mirror none is) (joined y here also its) = absurd (omega (arith, here, none))
one-joined number lines m a b (no_mirror none is) (no_mirror also its) = is ∙ sym its

some-joined : (number lines : ℕ) (m : MatchData) → IsMatch m → (due : Due) × IsJoined number lines m due
some-joined number lines m sound = by (nat_lt number m.mirrors) refl
  where
    by : (there : Bool) → nat_lt number m.mirrors ≡ there → (due : Due) × IsJoined number lines m due
    by true is =
        (let there : number < m.mirrors = grind (arith, nat_tests) in
        let told = some_told m sound number lines in
        (due_of_join told.0, joined told.0 there told.1 refl))
    by false is =
        (let none : m.mirrors ≤ number = grind (arith, nat_tests) in
        (refusal_due (refused_at mirrors_line Number), no_mirror none refl))

one-match : (ws : List Behaviour) (task : MatchTask) → is_race task ≡ false → (m : MatchData) (a b : Due) → IsMatchAnswer ws task m a → IsMatchAnswer ws task m b → a ≡ b
one-match ws Order plain m a b is its = is ∙ sym its
one-match ws Play plain m a b is its = is ∙ sym its
one-match ws Race plain m a b is its = absurd cc
one-match ws Lift plain m a b is its = is ∙ sym its
one-match ws Score plain m a b is its = is ∙ sym its
one-match ws PaintOrder plain m a b is its = is ∙ sym its
one-match ws PaintPlay plain m a b is its = is ∙ sym its
one-match ws (Join number lines) plain m a b is its = one-joined number lines m a b is its
one-match ws (Rewind every room ticks) plain m a b is its = is ∙ sym its

-- of a match that is raced: the record of workers that did nothing, or the refusal of a match without pace
some-raced : (m : MatchData) → IsMatch m → (due : Due) × IsRaced m due
some-raced m sound = by m.pace refl
  where
    by : (pace : ℕ) → m.pace ≡ pace → (due : Due) × IsRaced m due
    by zero is = (refusal_due (refused_at pace_line Number), no_pace is refl)
    by (suc pace) is =
        let ends = some_raced arena_rules m (opening_world m.layout) sound in (
          complete (record_text (record_of (arena_shown m) m ends.0)) (logs_from 0 ends.0),
          raced ends.0 (omega (arith, is)) refl (record { raced = ends.1; text_is = refl; kept_is = refl }) (arena_record m ends.0 sound ends.1),
        )

some-match : (ws : List Behaviour) (task : MatchTask) (m : MatchData) → IsMatch m → (due : Due) × IsMatchAnswer ws task m due
some-match ws Order m sound = (_, refl)
some-match ws Play m sound = (_, refl)
some-match ws Race m sound = some-raced m sound
some-match ws Lift m sound = (_, refl)
some-match ws Score m sound = (_, refl)
some-match ws PaintOrder m sound = (_, refl)
some-match ws PaintPlay m sound = (_, refl)
some-match ws (Join number lines) m sound = some-joined number lines m sound
some-match ws (Rewind every room ticks) m sound = (_, refl)

one-audit : (r : RaceRecord) (a b : Due) → IsAudited r a → IsAudited r b → a ≡ b
one-audit r a b is its =
    is.2 ∙ ap (λ (x : Verdict). due_of_verdict x) (one_verdict (arena_shown r.game) (opening_world r.game.layout) r is.0 its.0 is.1 its.1) ∙ sym its.2

some-audit : (r : RaceRecord) (input : List ℕ) → IsRecordText r input → (due : Due) × IsAudited r due
some-audit r input is =
    let verdict = some_verdict (arena_shown r.game) (opening_world r.game.layout) r is.0 in
    (due_of_verdict verdict.0, (verdict.0, verdict.1, refl))

-- one text is due for any words but `race` and any input
pub one-due : (ws : List Behaviour) (what : Option Subcommand) → races what ≡ false → (input : List ℕ) (a b : Due) → IsDueOf ws what input a → IsDueOf ws what input b → a ≡ b
one-due ws None plain input a b is its = is ∙ sym its
one-due ws (Some (OfMatch task)) plain input a b is its = one-for (IsMatchAnswer ws task) match-exact (one-match ws task plain) input a b is its
one-due ws (Some Audit) plain input a b is its = one-for IsAudited record-exact one-audit input a b is its
one-due ws (Some Lossy) plain input a b is its = one-for (λ x due. due ≡ due_of_lossy x) lossy-exact (λ x a b is its. is ∙ sym its) input a b is its
one-due ws (Some (Soak n)) plain input a b is its = is ∙ sym its

-- and some text is, for any words
pub some-due : (ws : List Behaviour) (what : Option Subcommand) (input : List ℕ) → (due : Due) × IsDueOf ws what input due
some-due ws None input = (usage_due, refl)
some-due ws (Some (OfMatch task)) input = some-for (IsMatchAnswer ws task) match-exact (λ m text is. some-match ws task m is.0) input
some-due ws (Some Audit) input = some-for IsAudited record-exact some-audit input
some-due ws (Some Lossy) input = some-for (λ x due. due ≡ due_of_lossy x) lossy-exact (λ x text is. (due_of_lossy x, refl)) input
some-due ws (Some (Soak n)) input = (due_of_number n, refl)

-- ---- its status

join-status : (P : Status → Type 0) (number lines : ℕ) (m : MatchData) (due : Due) → IsJoined number lines m due → P Complete → P Refusal → P NoTickLeft → P due.status
join-status P number lines m due (joined (Told text) there told is) a b c = subst (λ (d : Due). P d.status) (sym is) a
join-status P number lines m due (joined (TooLate text) there told is) a b c = subst (λ (d : Due). P d.status) (sym is) c
join-status P number lines m due (no_mirror none is) a b c = subst (λ (d : Due). P d.status) (sym is) b

rewind-status : (P : Status → Type 0) (room : ℕ) (ticks : List ℕ) (m : MatchData) (due : Due) → due ≡ due_of_rewind room ticks m → P Complete → P Refusal → P due.status
rewind-status P room ticks m due is a b = subst (λ (d : Due). P d.status) (sym is) (by (are_within m ticks) refl)
  where
    by : (within : Bool) → are_within m ticks ≡ within → P (due_of_rewind room ticks m).status
    by true h = rw h a
    by false h = rw h b

match-status : (ws : List Behaviour) (P : Status → Type 0) (task : MatchTask) (m : MatchData) (due : Due) → IsMatchAnswer ws task m due → P Complete → P Refusal
    → ((number lines : ℕ) → task ≡ Join number lines → P NoTickLeft) → P due.status
match-status ws P Order m due is a b c = subst (λ (d : Due). P d.status) (sym is) a
match-status ws P Play m due is a b c = subst (λ (d : Due). P d.status) (sym is) a
match-status ws P Race m due (raced mirrors pace is of fits) a b c = subst P (sym is) a
match-status ws P Race m due (no_pace pace is) a b c = subst (λ (d : Due). P d.status) (sym is) b
match-status ws P Lift m due is a b c = subst (λ (d : Due). P d.status) (sym is) a
match-status ws P Score m due is a b c = subst (λ (d : Due). P d.status) (sym is) a
match-status ws P PaintOrder m due is a b c = subst (λ (d : Due). P d.status) (sym is) a
match-status ws P PaintPlay m due is a b c = subst (λ (d : Due). P d.status) (sym is) a
match-status ws P (Join number lines) m due is a b c = join-status P number lines m due is a b (c number lines refl)
match-status ws P (Rewind every room ticks) m due is a b c = rewind-status P room ticks m due is a b

verdict-status : (P : Status → Type 0) (verdict : Verdict) → P Complete → P NotLegalRecord → P (status_of verdict)
verdict-status P (Legal events) a b = a
verdict-status P (NotLegal mirror place why) a b = b

-- the words ask for a mirror that joins late
pub record AsksJoin (what : Option Subcommand) : Type 0 where
  pub number : ℕ
  pub lines : ℕ
  pub asks : what ≡ Some (OfMatch (Join number lines))

-- a status that goes with what is due
pub due-status :
    (ws : List Behaviour) (P : Status → Type 0) (what : Option Subcommand) (input : List ℕ) (due : Due) → IsDueOf ws what input due
    → (what ≡ None → P WrongWords) → P Complete → P Refusal → (what ≡ Some Audit → P NotLegalRecord) → (AsksJoin what → P NoTickLeft) → P due.status
due-status ws P None input due is a b c d e = subst (λ (x : Due). P x.status) (sym is) (a refl)
due-status ws P (Some (OfMatch task)) input due (answer m text is) a b c d e =
    match-status ws P task m due is b c (λ number lines joins. e (record { number = number; lines = lines; asks = ap (λ (t : MatchTask). Some (OfMatch t)) joins }))
due-status ws P (Some (OfMatch task)) input due (refusal r lacks is) a b c d e = subst (λ (x : Due). P x.status) (sym is) c
due-status ws P (Some Audit) input due (answer r text is) a b c d e = subst (λ (x : Due). P x.status) (sym is.2) (verdict-status P is.0 b (d refl))
due-status ws P (Some Audit) input due (refusal r lacks is) a b c d e = subst (λ (x : Due). P x.status) (sym is) c
due-status ws P (Some Lossy) input due (answer x text is) a b c d e = subst (λ (x : Due). P x.status) (sym is) b
due-status ws P (Some Lossy) input due (refusal r lacks is) a b c d e = subst (λ (x : Due). P x.status) (sym is) c
due-status ws P (Some (Soak n)) input due is a b c d e = subst (λ (x : Due). P x.status) (sym is) b

-- it is none but these
pub due-no :
    (ws : List Behaviour) (n : ℕ) (what : Option Subcommand) (input : List ℕ) (due : Due) → IsDueOf ws what input due
    → nat_eq 0 n ≡ false → nat_eq 2 n ≡ false → nat_eq 5 n ≡ false → nat_eq 6 n ≡ false → nat_eq 7 n ≡ false → (status : ℕ) → status ≡ code due.status → status ≡ n → ⊥
due-no ws n what input due is at_0 two five six seven status of at =
    due-status ws (λ s. status ≡ code s → ⊥) what input due is (λ none e. not 2 n status two e at) (λ e. not 0 n status at_0 e at)
    (λ e. not 5 n status five e at) (λ audits e. not 6 n status six e at) (λ joins e. not 7 n status seven e at) of

-- ---- what it keeps

-- nothing: no match is played or raced for the input
pub record KeepsNothing (s : Subcommand) (due : Due) : Type 0 where
  pub kept : due.kept ≡ []
  pub later : keeps_logs s ≡ true → code due.status ≡ 0 → ⊥

-- the logs of the match that is played or raced for the input
pub record KeepsLogs (s : Subcommand) (input : List ℕ) (due : Due) : Type 0 where
  pub keeps : Keeps s input due.kept
  pub keeping : keeps_logs s ≡ true
  pub whole : code due.status ≡ 0

pub of-played : (m : MatchData) (text : List ℕ) (due : Due) → IsMatch m → due ≡ complete text (logs_from 0 (played (opening_world m.layout) m)) → KeepsPlayed m due.kept
of-played m text due sound is = subst (λ (d : Due). KeepsPlayed m d.kept) (sym is) (played-AllPlayed arena_rules m (opening_world m.layout) sound)

pub of-painted : (m : MatchData) (text : List ℕ) (due : Due) → IsMatch m → due ≡ complete text (logs_from 0 (played (opening_paint m.layout) m)) → KeepsPainted m due.kept
of-painted m text due sound is = subst (λ (d : Due). KeepsPainted m d.kept) (sym is) (played-AllPlayed paint_rules m (opening_paint m.layout) sound)

-- a match over its net keeps what its net came to
pub of-net : (x : LossyData) (due : Due) → due ≡ due_of_lossy x → IsLossy x → KeepsNet x due.kept
of-net x due is sound = record { ended = net-ended arena_rules x (opening_world x.game.layout) sound; logs = ap (λ (d : Due). d.kept) is }

join-kept : (number lines : ℕ) (m : MatchData) (due : Due) → IsJoined number lines m due → due.kept ≡ []
join-kept number lines m due (joined (Told text) there told is) = ap (λ (d : Due). d.kept) is
join-kept number lines m due (joined (TooLate text) there told is) = ap (λ (d : Due). d.kept) is
join-kept number lines m due (no_mirror none is) = ap (λ (d : Due). d.kept) is

rewind-kept : (room : ℕ) (ticks : List ℕ) (m : MatchData) → (due_of_rewind room ticks m).kept ≡ []
rewind-kept room ticks m = by (are_within m ticks) refl
  where
    by : (within : Bool) → are_within m ticks ≡ within → (due_of_rewind room ticks m).kept ≡ []
    by true h = rw h refl
    by false h = rw h refl

unkept : (s : Subcommand) (input : List ℕ) (due : Due) → due.kept ≡ [] → keeps_logs s ≡ false → (KeepsNothing s due) ⊎ (KeepsLogs s input due)
unkept s input due kept silent = inl (record { kept = kept; later = λ keeping at_0. absurd (let never = sym silent ∙ keeping in cc) })

refused-keeps : (s : Subcommand) (input : List ℕ) (r : Refused) (due : Due) → due ≡ refusal_due r → (KeepsNothing s due) ⊎ (KeepsLogs s input due)
refused-keeps s input r due is = inl (record {
  kept = ap (λ (d : Due). d.kept) is;
  later = λ keeping at_0. not 5 0 (code due.status) refl (ap (λ (d : Due). code d.status) is) at_0;
})

match-keeps : (ws : List Behaviour) (task : MatchTask) (input : List ℕ) (m : MatchData) (due : Due) → IsMatchText m input → IsMatchAnswer ws task m due
    → (KeepsNothing (OfMatch task) due) ⊎ (KeepsLogs (OfMatch task) input due)
match-keeps ws Order input m due text is = unkept (OfMatch Order) input due (ap (λ (d : Due). d.kept) is) refl
match-keeps ws Play input m due text is = inr (record { keeps = (m, text, of-played m _ due text.0 is); keeping = refl; whole = ap (λ (d : Due). code d.status) is })
match-keeps ws Race input m due text (raced mirrors pace is of fits) = inr (record { keeps = (m, text, pace, (mirrors, of.raced, of.kept_is)); keeping = refl; whole = ap code is })
match-keeps ws Race input m due text (no_pace pace is) = refused-keeps (OfMatch Race) input _ due is
match-keeps ws Lift input m due text is = unkept (OfMatch Lift) input due (ap (λ (d : Due). d.kept) is) refl
match-keeps ws Score input m due text is = inr (record { keeps = (m, text, of-played m _ due text.0 is); keeping = refl; whole = ap (λ (d : Due). code d.status) is })
match-keeps ws PaintOrder input m due text is = unkept (OfMatch PaintOrder) input due (ap (λ (d : Due). d.kept) is) refl
match-keeps ws PaintPlay input m due text is = inr (record { keeps = (m, text, of-painted m _ due text.0 is); keeping = refl; whole = ap (λ (d : Due). code d.status) is })
match-keeps ws (Join number lines) input m due text is = unkept (OfMatch (Join number lines)) input due (join-kept number lines m due is) refl
match-keeps ws (Rewind every room ticks) input m due text is = unkept (OfMatch (Rewind every room ticks)) input due (ap (λ (d : Due). d.kept) is ∙ rewind-kept room ticks m) refl

pub due-keeps : (ws : List Behaviour) (s : Subcommand) (input : List ℕ) (due : Due) → IsAnswer ws s input due → (KeepsNothing s due) ⊎ (KeepsLogs s input due)
due-keeps ws (OfMatch task) input due (answer m text is) = match-keeps ws task input m due text is
due-keeps ws (OfMatch task) input due (refusal r lacks is) = refused-keeps (OfMatch task) input r due is
due-keeps ws Audit input due (answer r text is) = unkept Audit input due (ap (λ (d : Due). d.kept) is.2) refl
due-keeps ws Audit input due (refusal r lacks is) = unkept Audit input due (ap (λ (d : Due). d.kept) is) refl
due-keeps ws Lossy input due (answer x text is) = inr (record { keeps = (x, text, of-net x due is text.0); keeping = refl; whole = ap (λ (d : Due). code d.status) is })
due-keeps ws Lossy input due (refusal r lacks is) = refused-keeps Lossy input r due is
due-keeps ws (Soak n) input due is =
    inr (record { keeps = of-played (match_of_number n) _ due (IsMatch-match_of_number n) is; keeping = refl; whole = ap (λ (d : Due). code d.status) is })

-- ---- what is due for a race

pub race-refused : (m : MatchData) (due : Due) → m.pace ≡ 0 → IsRaced m due → due ≡ refusal_due (refused_at pace_line Number)
race-refused m due none (raced mirrors pace is of fits) = absurd (omega (arith, none, pace))
race-refused m due none (no_pace pace is) = is

pub race-raced :
    (m : MatchData) (due : Due) → 0 < m.pace → IsRaced m due
    → (due.status ≡ Complete) × ((mirrors : List (MirrorState World)) × IsRecordOfRace (arena_shown m) (opening_world m.layout) m mirrors due.text due.kept)
race-raced m due some (raced mirrors pace is of fits) = (is, (mirrors, of))
race-raced m due some (no_pace pace is) = absurd (omega (arith, some, pace))

pub race-legal : (m : MatchData) (due : Due) → 0 < m.pace → IsRaced m due → IsLegalAnswer m due
race-legal m due some (raced mirrors pace is of fits) =
    record {
      r = record_of (arena_shown m) m mirrors;
      text = (fits, of.text_is);
      game = refl;
      logs = sym of.kept_is;
      legal = record_legal (arena_shown m) (opening_world m.layout) m mirrors of.raced;
    }
race-legal m due some (no_pace pace is) = absurd (omega (arith, some, pace))

-- a legal answer, taken apart
pub legal-parts :
    (m : MatchData) (due : Due) (h : IsLegalAnswer m due)
    → IsRecordText h.r due.text × (h.r.game ≡ m) × (h.r.logs ≡ due.kept) × IsLegalRecord (arena_shown m) (opening_world m.layout) h.r
legal-parts m due h = (h.text, h.game, h.logs, subst (λ (x : MatchData). IsLegalRecord (arena_shown x) (opening_world x.layout) h.r) h.game h.legal)

-- what is due for a text of a legal record
audit-legal : (ws : List Behaviour) (m : MatchData) (due audited : Due) → IsLegalAnswer m due → IsAnswer ws Audit due.text audited → audited ≡ due_of_verdict (Legal (event_count due.kept))
audit-legal ws m due audited p (refusal refused lacks is) = absurd (record-exact.apart p.r due.text refused p.text lacks)
audit-legal ws m due audited p (answer r text is) =
    let of = subst (λ (q : RaceRecord). IsAudited q audited) (record-exact.one r p.r due.text text p.text) is in
    of.2
    ∙ ap (λ (v : Verdict). due_of_verdict v) (one_verdict (arena_shown p.r.game) (opening_world p.r.game.layout) p.r of.0 (Legal (event_count p.r.logs)) of.1 (p.legal, refl))
    ∙ ap (λ (logs : List MirrorLog). due_of_verdict (Legal (event_count logs))) p.logs

pub race-audited : (ws : List Behaviour) (m : MatchData) (due audited : Due) → 0 < m.pace → IsRaced m due → IsAnswer ws Audit due.text audited → audited ≡ due_of_verdict (Legal (event_count due.kept))
race-audited ws m due audited some is has = audit-legal ws m due audited (race-legal m due some is) has

-- the pace of a match that was raced
pub race-paced : (m : MatchData) (due : Due) → IsRaced m due → code due.status ≡ 0 → 0 < m.pace
race-paced m due (raced mirrors pace is of fits) at_0 = pace
race-paced m due (no_pace none is) at_0 = absurd (not 5 0 (code due.status) refl (ap (λ (d : Due). code d.status) is) at_0)

-- ---- what an audit says

-- the status of a verdict says whether the record is legal
verdict-says : (r : RaceRecord) (v : Verdict) (status : ℕ) → IsVerdictOf r v → status ≡ code (status_of v) → SaysIfLegal status r
verdict-says r (Legal events) status tells is = (λ at_0. tells.0, λ legal. is)
verdict-says r (NotLegal mirror place why) status tells is = (
  λ at_0. absurd (not 6 0 status refl is at_0),
  λ legal. absurd (let never = (says_exactly (arena_shown r.game) (opening_world r.game.layout) r (NotLegal mirror place why) tells).1 legal in cc),
)

-- of the record whose text the input is
pub audit-says : (r : RaceRecord) (due : Due) (status : ℕ) → IsAudited r due → status ≡ code due.status → SaysIfLegal status r
audit-says r due status is of = verdict-says r is.0 status is.1 (of ∙ ap (λ (d : Due). code d.status) is.2)
