-- What follows from how a run may end.
use Rattle.std.proofs.Common.{◌≡◌, ◌≢◌, true, false, lit≤, ℕ, ◌<◌, ◌≤◌, ◌⊎◌, List, [], ◌++◌, Option, Some, None, length, take, inl, inr, sym, ap, subst, refl, ◌∙◌, arith}
use Rattle.std.specs.Prelude.{IfSome, nat_eq}
use Rattle.std.proofs.lemmas.List.{length-append, length-take-le}
use Rattle.tss_io.specs.Streams.{Rose, Gains}
use Rattle.match_data.specs.Data.{MatchData}
use Rattle.match_data.specs.declared.log.MirrorLog.{MirrorLog}
use Rattle.run_recorder.specs.declared.race_record.RaceRecord.{RaceRecord}
use Rattle.arena_rules.specs.World.{opening_world}
use Rattle.match_join.specs.declared.answer.JoinAnswer.TheVariants.{Told, TooLate}
use Rattle.match_join.specs.Join.{IsTooLate, TellsOfBoth}
use Rattle.lossy_text.specs.Data.{LossyData}
use Rattle.match_maker.specs.Generator.{match_of_number}
use Rattle.match_maker.proofs.Sound.{IsMatch-match_of_number}
use Rattle.soak.specs.Answer.{soak_opening}
use Rattle.soak.proofs.Agreed.{length-played}
use Rattle.soak.proofs.Whole.{text-whole, soaked-each, soaked-all}
use Rattle.watch_board.specs.Behaviour.{Behaviour}
use Rattle.tss_words.specs.declared.subcommand.Subcommand.{Subcommand}
use Rattle.tss_words.specs.declared.subcommand.Subcommand.TheVariants.{OfMatch, Audit, Lossy, Soak}
use Rattle.tss_words.specs.declared.subcommand.MatchTask.{MatchTask}
use Rattle.tss_words.specs.declared.subcommand.MatchTask.TheVariants.{Play, Race, Score, PaintPlay, Join}
use Rattle.tss_program.specs.declared.status.Status.{Status}
use Rattle.tss_program.specs.declared.due.Due.{Due}
use Rattle.tss_words.specs.Subcommands.{most_asked, races}
use Rattle.tss_program.specs.Due.{IsDueFor, answer, refusal, IsMatchText, IsRecordText, IsLossyText, IsMatchAnswer, IsRaced, IsJoined, joined, no_mirror}
use Rattle.tss_program.specs.Due.{arena_shown, due_of_lossy, IsDueOf, IsAnswer, due_of_number, code}
use Rattle.tss_program.specs.Run.{IsInput, behind, OfInput, ReadsAtMost, IsSilent, IsPut, whole, front, Run, asked, Ends, no_memory, unread, answered, IsRun}
use Rattle.tss_program.specs.Promises.{keeps_logs, Keeps, KeepsPlayed, KeepsPainted, KeepsRaced, KeepsAMatch, KeepsSome, KeepsNet, SoaksWhole, SaysIfLegal, AuditsARecord, EndsWith, IsComplete}
use Rattle.tss_program.specs.Promises as promises
use Rattle.tss_program.proofs.Texts.{match-exact, record-exact, lossy-exact}
use Rattle.tss_program.proofs.AnswerLaws.{not, one-due, due-status, due-no, due-keeps, KeepsNothing, KeepsLogs, of-played, of-painted, of-net, audit-says, race-raced, race-audited, race-paced}

-- ---- by cases

-- an input was read, and this is due for it
abbrev pub HasDue : Run → Due → Type 0
HasDue r due = OfInput (most_asked (asked r)) r.source_old r.source_new (λ input. IsDueOf r.watchers (asked r) input due)

-- how a run ended, by its status
by-end :
    (P : Type 0) (r : Run) → Ends r
    → (r.status ≡ 1 → asked r ≢ None → r.source_new.faults ≡ r.source_old.faults → IsSilent r.sink_old r.sink_new r.kept → P)
    → (r.status ≡ 3 → 0 < most_asked (asked r) → Rose r.source_old.faults r.source_new.faults → IsSilent r.sink_old r.sink_new r.kept → P)
    → ((due : Due) → HasDue r due → r.status ≡ 4 → Rose r.sink_old.faults r.sink_new.faults → r.kept ≡ due.kept → P)
    → ((due : Due) → HasDue r due → r.status ≡ code due.status → r.sink_new.faults ≡ r.sink_old.faults → r.kept ≡ due.kept → Gains r.sink_old.bytes due.text r.sink_new.bytes → P) → P
by-end P r (no_memory is asks steady silent) memory read write done = memory is asks steady silent
by-end P r (unread is asks rose silent) memory read write done = read is asks rose silent
by-end P r (answered due has (whole is steady gains kept)) memory read write done = done due has is steady kept gains
by-end P r (answered due has (front n less is rose gains kept)) memory read write done = write due has is rose kept

-- what is due at a status that no failure gives
pub by-due :
    (P : Type 0) (r : Run) (n : ℕ) → IsRun r → nat_eq 1 n ≡ false → nat_eq 3 n ≡ false → nat_eq 4 n ≡ false → r.status ≡ n
    → ((due : Due) → HasDue r due → code due.status ≡ n → r.kept ≡ due.kept → Gains r.sink_old.bytes due.text r.sink_new.bytes → P) → P
by-due P r n run one three four at f = by-end P r run.ends
    (λ is asks steady silent. absurd (not 1 n r.status one is at)) (λ is asks rose silent. absurd (not 3 n r.status three is at)) (λ due has is rose kept. absurd (not 4 n r.status four is at))
    (λ due has is steady kept gains. f due has (sym is ∙ at) kept gains)

-- an input that is told is the one that was read
pub told-same : (left : Option (List ℕ)) (input other : List ℕ) → left ≡ Some input → IsInput left other → input ≡ other
told-same left input other told is = subst (λ (l : Option (List ℕ)). IsInput l other) told is

-- what is due for an input that is told
pub told-due : (r : Run) (input : List ℕ) (due : Due) → r.source_old.left ≡ Some input → HasDue r due → IsDueOf r.watchers (asked r) input due
told-due r input due told has = subst (λ (l : List ℕ). IsDueOf r.watchers (asked r) l due) (sym (told-same r.source_old.left input has.input told has.told)) has.holds

-- what is due where the words ask for this
pub asked-due : (r : Run) (s : Subcommand) (input : List ℕ) (due : Due) → asked r ≡ Some s → IsDueOf r.watchers (asked r) input due → IsAnswer r.watchers s input due
asked-due r s input due asks is = subst (λ (o : Option Subcommand). IsDueOf r.watchers o input due) asks is

-- ---- ends as is due

pub run-told : (r : Run) (input : List ℕ) (due : Due) → IsRun r → races (asked r) ≡ false → r.source_old.left ≡ Some input → IsDueOf r.watchers (asked r) input due → EndsWith due r
run-told r input due run plain told is = by run.ends
  where
    by : Ends r → EndsWith due r
    by (no_memory at asks steady silent) = promises.no_memory at silent
    by (unread at asks rose silent) = promises.unread at silent
    by (answered other has put) =
        promises.put (subst (λ (d : Due). IsPut d r.sink_old r.sink_new r.status r.kept)
        (one-due r.watchers (asked r) plain input other due (told-due r input other told has) is) put)

pub run-whole : (r : Run) → IsRun r → (Rose r.source_old.faults r.source_new.faults → ⊥) → (Rose r.sink_old.faults r.sink_new.faults → ⊥) → (r.status ≡ 1) ⊎ IsComplete r
run-whole r run no_read no_write = by-end ((r.status ≡ 1) ⊎ IsComplete r) r run.ends
    (λ is asks steady silent. inl is) (λ is asks rose silent. absurd (no_read rose)) (λ due has is rose kept. absurd (no_write rose))
    (λ due has is steady kept gains. inr (record { input = has.input; told = has.told; due = due; is_due = has.holds; status = is; text = gains; kept = kept }))

-- ---- statuses

pub run-at_most_seven : (r : Run) → IsRun r → r.status ≤ 7
run-at_most_seven r run = by-end (r.status ≤ 7) r run.ends
    (λ is asks steady silent. omega arith) (λ is asks rose silent. omega arith) (λ due has is rose kept. omega arith)
    (λ due has is steady kept gains. (let most = due-status r.watchers (λ s. code s ≤ 7) (asked r) has.input due
    has.holds (λ none. lit≤ tt) (lit≤ tt) (lit≤ tt) (λ audits. lit≤ tt) (λ joins. lit≤ tt) in omega arith))

pub run-wrong_words : (r : Run) → IsRun r → asked r ≡ None → (r.status ≡ 2) ⊎ (r.status ≡ 4)
run-wrong_words r run none = by-end ((r.status ≡ 2) ⊎ (r.status ≡ 4)) r run.ends
    (λ is asks steady silent. absurd (asks none)) (λ is reads rose silent. absurd (let nothing = ap most_asked none in omega arith)) (λ due has is rose kept. inr is)
    (λ due has is steady kept gains. inl (is ∙ ap (λ (d : Due). code d.status) (subst (λ (o : Option Subcommand). IsDueOf r.watchers o has.input due) none has.holds)))

pub run-only_wrong_words : (r : Run) → IsRun r → r.status ≡ 2 → asked r ≡ None
run-only_wrong_words r run two = by-due (asked r ≡ None) r 2 run refl refl refl two (λ due has is kept gains.
    due-status r.watchers (λ s. code s ≡ 2 → asked r ≡ None) (asked r) has.input due has.holds (λ none at. none)
    (λ at. absurd (not 0 2 0 refl refl at)) (λ at. absurd (not 5 2 5 refl refl at)) (λ audits at. absurd (not 6 2 6 refl refl at)) (λ joins at. absurd (not 7 2 7 refl refl at)) is)

pub run-only_audited : (r : Run) → IsRun r → r.status ≡ 6 → asked r ≡ Some Audit
run-only_audited r run six = by-due (asked r ≡ Some Audit) r 6 run refl refl refl six (λ due has is kept gains.
    due-status r.watchers (λ s. code s ≡ 6 → asked r ≡ Some Audit) (asked r) has.input due has.holds (λ none at. absurd (not 2 6 2 refl refl at))
    (λ at. absurd (not 0 6 0 refl refl at)) (λ at. absurd (not 5 6 5 refl refl at)) (λ audits at. audits) (λ joins at. absurd (not 7 6 7 refl refl at)) is)

pub run-only_joined : (r : Run) → IsRun r → r.status ≡ 7 → (number : ℕ) × (lines : ℕ) × (asked r ≡ Some (OfMatch (Join number lines)))
run-only_joined r run seven = by-due ((number : ℕ) × (lines : ℕ) × (asked r ≡ Some (OfMatch (Join number lines)))) r 7 run refl refl refl seven (λ due has is kept gains.
    due-status r.watchers (λ s. code s ≡ 7 → (number : ℕ) × (lines : ℕ) × (asked r ≡ Some (OfMatch (Join number lines)))) (asked r) has.input due has.holds
    (λ none at. absurd (not 2 7 2 refl refl at)) (λ at. absurd (not 0 7 0 refl refl at)) (λ at. absurd (not 5 7 5 refl refl at))
    (λ audits at. absurd (not 6 7 6 refl refl at)) (λ joins at. (joins.number, joins.lines, joins.asks)) is)

pub run-read_fault : (r : Run) → IsRun r → r.status ≡ 3 → Rose r.source_old.faults r.source_new.faults
run-read_fault r run three = by-end (Rose r.source_old.faults r.source_new.faults) r run.ends
    (λ is asks steady silent. absurd (not 1 3 r.status refl is three)) (λ is asks rose silent. rose) (λ due has is rose kept. absurd (not 4 3 r.status refl is three))
    (λ due has is steady kept gains. absurd (due-no r.watchers 3 (asked r) has.input due has.holds refl refl refl refl refl r.status is three))

pub run-write_fault : (r : Run) → IsRun r → r.status ≡ 4 → Rose r.sink_old.faults r.sink_new.faults
run-write_fault r run four = by-end (Rose r.sink_old.faults r.sink_new.faults) r run.ends
    (λ is asks steady silent. absurd (not 1 4 r.status refl is four)) (λ is asks rose silent. absurd (not 3 4 r.status refl is four)) (λ due has is rose kept. rose)
    (λ due has is steady kept gains. absurd (due-no r.watchers 4 (asked r) has.input due has.holds refl refl refl refl refl r.status is four))

pub run-read_steady : (r : Run) → IsRun r → (r.status ≡ 3) ⊎ (r.source_new.faults ≡ r.source_old.faults)
run-read_steady r run = by-end ((r.status ≡ 3) ⊎ (r.source_new.faults ≡ r.source_old.faults)) r run.ends
    (λ is asks steady silent. inr steady) (λ is asks rose silent. inl is) (λ due has is rose kept. inr has.faults) (λ due has is steady kept gains. inr has.faults)

pub run-write_steady : (r : Run) → IsRun r → (r.status ≡ 4) ⊎ (r.sink_new.faults ≡ r.sink_old.faults)
run-write_steady r run = by-end ((r.status ≡ 4) ⊎ (r.sink_new.faults ≡ r.sink_old.faults)) r run.ends
    (λ is asks steady silent. inr silent.faults) (λ is asks rose silent. inr silent.faults) (λ due has is rose kept. inl is) (λ due has is steady kept gains. inr steady)

-- ---- one end

pub gained-told : (bytes text : List ℕ) (old new : Option (List ℕ)) → old ≡ Some bytes → Gains old text new → new ≡ Some (bytes ++ text)
gained-told bytes text old new is gains = by new (subst (λ (o : Option (List ℕ)). Gains o text new) is gains)
  where
    by : (new : Option (List ℕ)) → Gains (Some bytes) text new → new ≡ Some (bytes ++ text)
    by (Some after) gains = ap (λ (l : List ℕ). Some l) gains
    by None gains = absurd gains

pub run-one-end :
    (r : Run) (input bytes : List ℕ) (due : Due) → IsRun r → races (asked r) ≡ false → r.source_old.left ≡ Some input → r.sink_old.bytes ≡ Some bytes → IsDueOf r.watchers (asked r) input due
    → (Rose r.source_old.faults r.source_new.faults → ⊥) → (Rose r.sink_old.faults r.sink_new.faults → ⊥)
    → (r.status ≡ 1) ⊎ ((r.status ≡ code due.status) × (r.sink_new.bytes ≡ Some (bytes ++ due.text)) × (r.kept ≡ due.kept))
run-one-end r input bytes due run plain told first is no_read no_write = by (run-told r input due run plain told is)
  where
    by : EndsWith due r → (r.status ≡ 1) ⊎ ((r.status ≡ code due.status) × (r.sink_new.bytes ≡ Some (bytes ++ due.text)) × (r.kept ≡ due.kept))
    by (promises.no_memory at silent) = inl at
    by (promises.unread at silent) = absurd (no_read (run-read_fault r run at))
    by (promises.put (whole at steady gains kept)) = inr (at, gained-told bytes due.text r.sink_old.bytes r.sink_new.bytes first gains, kept)
    by (promises.put (front n less at rose gains kept)) = absurd (no_write rose)

-- ---- what was read and written

pub run-read : (r : Run) → IsRun r → (r.status ≡ 0) ⊎ (r.status ≡ 5) ⊎ (r.status ≡ 6) ⊎ (r.status ≡ 7) → r.source_new.left ≡ behind (most_asked (asked r)) r.source_old.left
run-read r run when = by-end (r.source_new.left ≡ behind (most_asked (asked r)) r.source_old.left) r run.ends
    (λ is asks steady silent. absurd (no-answer 1 r.status refl refl refl refl is when)) (λ is asks rose silent. absurd (no-answer 3 r.status refl refl refl refl is when))
    (λ due has is rose kept. has.left) (λ due has is steady kept gains. has.left)
  where
    no-answer : (n status : ℕ) → nat_eq n 0 ≡ false → nat_eq n 5 ≡ false → nat_eq n 6 ≡ false → nat_eq n 7 ≡ false → status ≡ n
        → (status ≡ 0) ⊎ (status ≡ 5) ⊎ (status ≡ 6) ⊎ (status ≡ 7) → ⊥
    no-answer n status zero five six seven is (inl e) = not n 0 status zero is e
    no-answer n status zero five six seven is (inr (inl e)) = not n 5 status five is e
    no-answer n status zero five six seven is (inr (inr (inl e))) = not n 6 status six is e
    no-answer n status zero five six seven is (inr (inr (inr e))) = not n 7 status seven is e

pub run-silent : (r : Run) → IsRun r → (r.status ≡ 1) ⊎ (r.status ≡ 3) → Gains r.sink_old.bytes [] r.sink_new.bytes
run-silent r run when = by-end (Gains r.sink_old.bytes [] r.sink_new.bytes) r run.ends
    (λ is asks steady silent. silent.bytes) (λ is asks rose silent. silent.bytes)
    (λ due has is rose kept. absurd (no-stop r.status (not 4 1 r.status refl is) (not 4 3 r.status refl is) when))
    (λ due has is steady kept gains. absurd (no-stop r.status
    (due-no r.watchers 1 (asked r) has.input due has.holds refl refl refl refl refl r.status is) (due-no r.watchers 3 (asked r) has.input due has.holds refl refl refl refl refl r.status is) when))
  where
    no-stop : (status : ℕ) → (status ≡ 1 → ⊥) → (status ≡ 3 → ⊥) → (status ≡ 1) ⊎ (status ≡ 3) → ⊥
    no-stop status one three (inl e) = one e
    no-stop status one three (inr e) = three e

-- ---- what is kept

-- nothing is kept, or the logs of what words ask for are
kept-by :
    (r : Run) (what : Option Subcommand) → asked r ≡ what → (due : Due) (input : List ℕ)
    → IsInput r.source_old.left input → IsDueOf r.watchers what input due → r.kept ≡ due.kept → (r.kept ≡ []) ⊎ KeepsSome r
kept-by r None none due input told is same = inl (same ∙ ap (λ (d : Due). d.kept) is)
kept-by r (Some s) asks due input told is same = by (due-keeps r.watchers s input due is)
  where
    by : (KeepsNothing s due) ⊎ (KeepsLogs s input due) → (r.kept ≡ []) ⊎ KeepsSome r
    by (inl nothing) = inl (same ∙ nothing.kept)
    by (inr keeps) = inr (record {
      subcommand = s;
      asked_for = asks;
      keeps = record { input = input; told = told; keeps = subst (λ (logs : List MirrorLog). Keeps s input logs) (sym same) keeps.keeps };
    })

pub run-logs : (r : Run) → IsRun r → (r.kept ≡ []) ⊎ KeepsSome r
run-logs r run = by-end ((r.kept ≡ []) ⊎ KeepsSome r) r run.ends
    (λ is asks steady silent. inl silent.nothing) (λ is asks rose silent. inl silent.nothing)
    (λ due has is rose kept. kept-by r (asked r) refl due has.input has.told has.holds kept) (λ due has is steady kept gains. kept-by r (asked r) refl due has.input has.told has.holds kept)

pub run-keeps-whole : (r : Run) (s : Subcommand) → IsRun r → asked r ≡ Some s → keeps_logs s ≡ true → r.status ≡ 0 → KeepsAMatch s r.source_old.left r.kept
run-keeps-whole r s run asks keeping zero = by-due (KeepsAMatch s r.source_old.left r.kept) r 0 run refl refl refl zero
    (λ due has is kept gains. by due has.input has.told is kept (due-keeps r.watchers s has.input due (asked-due r s has.input due asks has.holds)))
  where
    by :
        (due : Due) (input : List ℕ) → IsInput r.source_old.left input → code due.status ≡ 0 → r.kept ≡ due.kept
        → (KeepsNothing s due) ⊎ (KeepsLogs s input due) → KeepsAMatch s r.source_old.left r.kept
    by due input told is same (inl nothing) = absurd (nothing.later keeping is)
    by due input told is same (inr keeps) =
        record { input = input; told = told; keeps = subst (λ (logs : List MirrorLog). Keeps s input logs) (sym same) keeps.keeps }

-- what was due where its text was written, or a part of it
written-due :
    (P : List MirrorLog → Type 0) (r : Run) (s : Subcommand) → IsRun r → asked r ≡ Some s → (r.status ≡ 0) ⊎ (r.status ≡ 4)
    → ((due : Due) → HasDue r due → P due.kept) → P r.kept
written-due P r s run asks when f = by-end (P r.kept) r run.ends
    (λ is a steady silent. absurd (no-text 1 r.status refl refl is when)) (λ is a rose silent. absurd (no-text 3 r.status refl refl is when))
    (λ due has is rose kept. subst P (sym kept) (f due has)) (λ due has is steady kept gains. subst P (sym kept) (f due has))
  where
    no-text : (n status : ℕ) → nat_eq n 0 ≡ false → nat_eq n 4 ≡ false → status ≡ n → (status ≡ 0) ⊎ (status ≡ 4) → ⊥
    no-text n status zero four is (inl e) = not n 0 status zero is e
    no-text n status zero four is (inr e) = not n 4 status four is e

-- of a match whose text is told
written-match :
    (P : List MirrorLog → Type 0) (r : Run) (task : MatchTask) (input : List ℕ) (m : MatchData) → IsRun r → asked r ≡ Some (OfMatch task) → r.source_old.left ≡ Some input → IsMatchText m input
    → (r.status ≡ 0) ⊎ (r.status ≡ 4) → ((due : Due) → IsMatchAnswer r.watchers task m due → P due.kept) → P r.kept
written-match P r task input m run asks told text when f = written-due P r (OfMatch task) run asks when
    (λ due has. by due (asked-due r (OfMatch task) input due asks (told-due r input due told has)))
  where
    by : (due : Due) → IsAnswer r.watchers (OfMatch task) input due → P due.kept
    by due (answer n its is) = f due (subst (λ (x : MatchData). IsMatchAnswer r.watchers task x due) (match-exact.one n m input its text) is)
    by due (refusal refused lacks is) = absurd (match-exact.apart m input refused text lacks)

pub run-keeps-played :
    (r : Run) (input : List ℕ) (m : MatchData) → IsRun r → (asked r ≡ Some (OfMatch Play)) ⊎ (asked r ≡ Some (OfMatch Score)) → r.source_old.left ≡ Some input → IsMatchText m input
    → (r.status ≡ 0) ⊎ (r.status ≡ 4) → KeepsPlayed m r.kept
run-keeps-played r input m run (inl asks) told text when = written-match (KeepsPlayed m) r Play input m run asks told text when (λ due is. of-played m _ due text.0 is)
run-keeps-played r input m run (inr asks) told text when = written-match (KeepsPlayed m) r Score input m run asks told text when (λ due is. of-played m _ due text.0 is)

pub run-keeps-painted :
    (r : Run) (input : List ℕ) (m : MatchData) → IsRun r → asked r ≡ Some (OfMatch PaintPlay) → r.source_old.left ≡ Some input → IsMatchText m input
    → (r.status ≡ 0) ⊎ (r.status ≡ 4) → KeepsPainted m r.kept
run-keeps-painted r input m run asks told text when = written-match (KeepsPainted m) r PaintPlay input m run asks told text when (λ due is. of-painted m _ due text.0 is)

pub run-keeps-raced :
    (r : Run) (input : List ℕ) (m : MatchData) → IsRun r → asked r ≡ Some (OfMatch Race) → r.source_old.left ≡ Some input → IsMatchText m input
    → 0 < m.pace → (r.status ≡ 0) ⊎ (r.status ≡ 4) → KeepsRaced m r.kept
run-keeps-raced r input m run asks told text pace when = written-match (KeepsRaced m) r Race input m run asks told text when
    (λ due is. let of = race-raced m due pace is in (of.1.0, of.1.1.raced, of.1.1.kept_is))

pub run-keeps-soaked : (r : Run) (number : ℕ) → IsRun r → asked r ≡ Some (Soak number) → (r.status ≡ 0) ⊎ (r.status ≡ 4) → KeepsPlayed (match_of_number number) r.kept
run-keeps-soaked r number run asks when = written-due (KeepsPlayed (match_of_number number)) r (Soak number) run asks when
    (λ due has. of-played (match_of_number number) _ due (IsMatch-match_of_number number) (asked-due r (Soak number) has.input due asks has.holds))

pub run-keeps-nothing : (r : Run) → IsRun r → (r.status ≡ 1) ⊎ (r.status ≡ 2) ⊎ (r.status ≡ 3) ⊎ (r.status ≡ 5) ⊎ (r.status ≡ 6) ⊎ (r.status ≡ 7) → r.kept ≡ []
run-keeps-nothing r run when = by-end (r.kept ≡ []) r run.ends
    (λ is asks steady silent. silent.nothing) (λ is asks rose silent. silent.nothing)
    (λ due has is rose kept. absurd (no-kept 4 r.status refl refl refl refl refl refl is when))
    (λ due has is steady kept gains. by (asked r) refl due has.input has.holds is kept)
  where
    no-kept : (n status : ℕ) → nat_eq n 1 ≡ false → nat_eq n 2 ≡ false → nat_eq n 3 ≡ false → nat_eq n 5 ≡ false → nat_eq n 6 ≡ false → nat_eq n 7 ≡ false → status ≡ n
        → (status ≡ 1) ⊎ (status ≡ 2) ⊎ (status ≡ 3) ⊎ (status ≡ 5) ⊎ (status ≡ 6) ⊎ (status ≡ 7) → ⊥
    no-kept n status one two three five six seven is (inl e) = not n 1 status one is e
    no-kept n status one two three five six seven is (inr (inl e)) = not n 2 status two is e
    no-kept n status one two three five six seven is (inr (inr (inl e))) = not n 3 status three is e
    no-kept n status one two three five six seven is (inr (inr (inr (inl e)))) = not n 5 status five is e
    no-kept n status one two three five six seven is (inr (inr (inr (inr (inl e))))) = not n 6 status six is e
    no-kept n status one two three five six seven is (inr (inr (inr (inr (inr e))))) = not n 7 status seven is e

    keeps-none : (s : Subcommand) (due : Due) (input : List ℕ) → r.status ≡ code due.status → r.kept ≡ due.kept → (KeepsNothing s due) ⊎ (KeepsLogs s input due) → r.kept ≡ []
    keeps-none s due input is same (inl nothing) = same ∙ nothing.kept
    keeps-none s due input is same (inr keeps) = absurd (no-kept 0 r.status refl refl refl refl refl refl (is ∙ keeps.whole) when)

    by : (what : Option Subcommand) → asked r ≡ what → (due : Due) (input : List ℕ) → IsDueOf r.watchers what input due → r.status ≡ code due.status → r.kept ≡ due.kept → r.kept ≡ []
    by None none due input holds is same = same ∙ ap (λ (d : Due). d.kept) holds
    by (Some s) asks due input holds is same = keeps-none s due input is same (due-keeps r.watchers s input due holds)

pub run-keeps-only : (r : Run) → IsRun r → ((s : Subcommand) → asked r ≡ Some s → keeps_logs s ≡ true → ⊥) → r.kept ≡ []
run-keeps-only r run others = by-end (r.kept ≡ []) r run.ends
    (λ is asks steady silent. silent.nothing) (λ is asks rose silent. silent.nothing)
    (λ due has is rose kept. by (asked r) refl due has.input has.holds kept) (λ due has is steady kept gains. by (asked r) refl due has.input has.holds kept)
  where
    keeps-none : (s : Subcommand) (due : Due) (input : List ℕ) → asked r ≡ Some s → r.kept ≡ due.kept → (KeepsNothing s due) ⊎ (KeepsLogs s input due) → r.kept ≡ []
    keeps-none s due input asks same (inl nothing) = same ∙ nothing.kept
    keeps-none s due input asks same (inr keeps) = absurd (others s asks keeps.keeping)

    by : (what : Option Subcommand) → asked r ≡ what → (due : Due) (input : List ℕ) → IsDueOf r.watchers what input due → r.kept ≡ due.kept → r.kept ≡ []
    by None none due input holds same = same ∙ ap (λ (d : Due). d.kept) holds
    by (Some s) asks due input holds same = keeps-none s due input asks same (due-keeps r.watchers s input due holds)

-- ---- soaks and audits

pub run-soaks : (r : Run) (number : ℕ) → IsRun r → asked r ≡ Some (Soak number) → r.status ≡ 0 → SoaksWhole number r.sink_old.bytes r.sink_new.bytes r.kept
run-soaks r number run asks zero = by-due (SoaksWhole number r.sink_old.bytes r.sink_new.bytes r.kept) r 0 run refl refl refl zero
    (λ due has is kept gains. by due (asked-due r (Soak number) has.input due asks has.holds) kept gains)
  where
    by : (due : Due) → due ≡ due_of_number number → r.kept ≡ due.kept → Gains r.sink_old.bytes due.text r.sink_new.bytes → SoaksWhole number r.sink_old.bytes r.sink_new.bytes r.kept
    by due is kept gains =
        let whole = text-whole number (soaked-each number) in
        record {
          mirrors = soaked-all number;
          count = length-played soak_opening number;
          repairs = whole.0;
          repairs_count = whole.1;
          text = subst (λ (text : List ℕ). Gains r.sink_old.bytes text r.sink_new.bytes) (ap (λ (d : Due). d.text) is ∙ whole.2) gains;
          logs = kept ∙ ap (λ (d : Due). d.kept) is;
        }

no-verdict : (n status : ℕ) → nat_eq n 0 ≡ false → nat_eq n 6 ≡ false → status ≡ n → (status ≡ 0) ⊎ (status ≡ 6) → ⊥
no-verdict n status zero six is (inl e) = not n 0 status zero is e
no-verdict n status zero six is (inr e) = not n 6 status six is e

-- an audit that gave a verdict read a record
audit-by :
    (P : Type 0) (r : Run) → IsRun r → asked r ≡ Some Audit → (r.status ≡ 0) ⊎ (r.status ≡ 6)
    → ((input : List ℕ) (q : RaceRecord) → IsInput r.source_old.left input → IsRecordText q input → SaysIfLegal r.status q → P) → P
audit-by P r run asks when f = by-end P r run.ends
    (λ is a steady silent. absurd (no-verdict 1 r.status refl refl is when)) (λ is a rose silent. absurd (no-verdict 3 r.status refl refl is when))
    (λ due has is rose kept. absurd (no-verdict 4 r.status refl refl is when))
    (λ due has is steady kept gains. by due has.input has.told is (asked-due r Audit has.input due asks has.holds))
  where
    by : (due : Due) (input : List ℕ) → IsInput r.source_old.left input → r.status ≡ code due.status → IsAnswer r.watchers Audit input due → P
    by due input told is (answer q text audited) = f input q told text (audit-says q due r.status audited is)
    by due input told is (refusal refused lacks its) = absurd (no-verdict 5 r.status refl refl (is ∙ ap (λ (d : Due). code d.status) its) when)

pub run-audits : (r : Run) → IsRun r → asked r ≡ Some Audit → (r.status ≡ 0) ⊎ (r.status ≡ 6) → AuditsARecord r.source_old.left r.status
run-audits r run asks when = audit-by (AuditsARecord r.source_old.left r.status) r run asks when (λ input q told text says. record { r = q; input = input; told = told; is = text; says = says })

pub run-audits-told :
    (r : Run) (input : List ℕ) (q : RaceRecord) → IsRun r → asked r ≡ Some Audit → r.source_old.left ≡ Some input
    → IsRecordText q input → (r.status ≡ 0) ⊎ (r.status ≡ 6) → SaysIfLegal r.status q
run-audits-told r input q run asks told text when = audit-by (SaysIfLegal r.status q) r run asks when (λ other p is its says.
    subst (λ (x : RaceRecord). SaysIfLegal r.status x) (record-exact.one p q other its (subst (λ (l : List ℕ). IsRecordText q l) (told-same r.source_old.left input other told is) text)) says)

-- ---- a race, and an audit of what it printed

-- what a race printed whole is what is due for some match
race-printed : (P : Type 0) (r : Run) (text : List ℕ) → IsRun r → asked r ≡ Some (OfMatch Race) → r.status ≡ 0 → r.sink_old.bytes ≡ Some [] → r.sink_new.bytes ≡ Some text
    → ((m : MatchData) (due : Due) → 0 < m.pace → IsRaced m due → text ≡ due.text → P) → P
race-printed P r text run asks zero first then f = by-due P r 0 run refl refl refl zero (λ due has is kept gains.
    by due has.input is (told-same r.sink_new.bytes text due.text then (put due gains)) (asked-due r (OfMatch Race) has.input due asks has.holds))
  where
    put : (due : Due) → Gains r.sink_old.bytes due.text r.sink_new.bytes → IsInput r.sink_new.bytes due.text
    put due gains = subst (λ (o : Option (List ℕ)). IsInput o due.text) (sym (gained-told [] due.text r.sink_old.bytes r.sink_new.bytes first gains)) refl

    by : (due : Due) (input : List ℕ) → code due.status ≡ 0 → text ≡ due.text → IsAnswer r.watchers (OfMatch Race) input due → P
    by due input is same (answer m its raced) = f m due (race-paced m due raced is) raced same
    by due input is same (refusal refused lacks its) = absurd (not 5 0 (code due.status) refl (ap (λ (d : Due). code d.status) its) is)

pub race-audits :
    (r s : Run) (text : List ℕ) → IsRun r → asked r ≡ Some (OfMatch Race) → r.status ≡ 0 → r.sink_old.bytes ≡ Some [] → r.sink_new.bytes ≡ Some text
    → IsRun s → asked s ≡ Some Audit → s.source_old.left ≡ Some text → (s.status ≡ 0) ⊎ (s.status ≡ 1) ⊎ (s.status ≡ 3) ⊎ (s.status ≡ 4)
race-audits r s text run asks zero first then audit_run audits told =
    race-printed ((s.status ≡ 0) ⊎ (s.status ≡ 1) ⊎ (s.status ≡ 3) ⊎ (s.status ≡ 4)) r text run asks zero first then (λ m due some is same.
    by-end ((s.status ≡ 0) ⊎ (s.status ≡ 1) ⊎ (s.status ≡ 3) ⊎ (s.status ≡ 4)) s audit_run.ends
    (λ at a steady silent. inr (inl at)) (λ at a rose silent. inr (inr (inl at))) (λ audited has at rose kept. inr (inr (inr at)))
    (λ audited has at steady kept gains. inl (at ∙ ap (λ (d : Due). code d.status)
    (race-audited s.watchers m due audited some is (subst (λ (l : List ℕ). IsAnswer s.watchers Audit l audited) same (asked-due s Audit text audited audits (told-due s text audited told has)))))))

-- ---- a mirror that joins late

-- what was due for a match of which a mirror is joined
join-due :
    (P : Type 0) (r : Run) (input : List ℕ) (m : MatchData) (number lines : ℕ) → asked r ≡ Some (OfMatch (Join number lines)) → r.source_old.left ≡ Some input → IsMatchText m input
    → (due : Due) → HasDue r due → (IsJoined number lines m due → P) → (code due.status ≡ 5 → P) → P
join-due P r input m number lines asks told text due has f refused = by (asked-due r (OfMatch (Join number lines)) input due asks (told-due r input due told has))
  where
    by : IsAnswer r.watchers (OfMatch (Join number lines)) input due → P
    by (answer n its is) = f (subst (λ (x : MatchData). IsJoined number lines x due) (match-exact.one n m input its text) is)
    by (refusal refusal_is lacks is) = refused (ap (λ (d : Due). code d.status) is)

pub run-joins-late :
    (r : Run) (input : List ℕ) (m : MatchData) (number lines : ℕ) → IsRun r → asked r ≡ Some (OfMatch (Join number lines)) → r.source_old.left ≡ Some input → IsMatchText m input
    → r.status ≡ 7 → IsTooLate (opening_world m.layout) m number lines
run-joins-late r input m number lines run asks told text seven = by-due (IsTooLate (opening_world m.layout) m number lines) r 7 run refl refl refl seven
    (λ due has is kept gains. join-due (IsTooLate (opening_world m.layout) m number lines) r input m number lines asks
    told text due has (by due is) (λ five. absurd (not 5 7 (code due.status) refl five is)))
  where
    by : (due : Due) → code due.status ≡ 7 → IsJoined number lines m due → IsTooLate (opening_world m.layout) m number lines
    by due is (joined (Told t) there tells same) = absurd (not 0 7 (code due.status) refl (ap (λ (d : Due). code d.status) same) is)
    by due is (joined (TooLate t) there tells same) = tells.0
    by due is (no_mirror none same) = absurd (not 5 7 (code due.status) refl (ap (λ (d : Due). code d.status) same) is)

-- a text tells of both, and was put
abbrev TellsPut : Run → MatchData → ℕ → ℕ → Type 0
TellsPut r m number lines = (text : List ℕ) × TellsOfBoth (arena_shown m) (opening_world m.layout) m number lines text × Gains r.sink_old.bytes text r.sink_new.bytes

pub run-joins-both :
    (r : Run) (input : List ℕ) (m : MatchData) (number lines : ℕ) → IsRun r → asked r ≡ Some (OfMatch (Join number lines)) → r.source_old.left ≡ Some input → IsMatchText m input
    → r.status ≡ 0 → TellsPut r m number lines
run-joins-both r input m number lines run asks told text zero = by-due (TellsPut r m number lines) r 0 run refl refl refl zero
    (λ due has is kept gains. join-due (TellsPut r m number lines) r input m number lines asks told text due has (by due is gains) (λ five. absurd (not 5 0 (code due.status) refl five is)))
  where
    by : (due : Due) → code due.status ≡ 0 → Gains r.sink_old.bytes due.text r.sink_new.bytes → IsJoined number lines m due → TellsPut r m number lines
    by due is gains (joined (Told t) there tells same) =
        (t, tells, subst (λ (l : List ℕ). Gains r.sink_old.bytes l r.sink_new.bytes) (ap (λ (d : Due). d.text) same) gains)
    by due is gains (joined (TooLate t) there tells same) = absurd (not 7 0 (code due.status) refl (ap (λ (d : Due). code d.status) same) is)
    by due is gains (no_mirror none same) = absurd (not 5 0 (code due.status) refl (ap (λ (d : Due). code d.status) same) is)

-- ---- a lossy net

pub run-loses-nothing :
    (r : Run) (input : List ℕ) (x : LossyData) → IsRun r → asked r ≡ Some Lossy → r.source_old.left ≡ Some input → IsLossyText x input
    → (r.status ≡ 0) ⊎ (r.status ≡ 4) → KeepsNet x r.kept
run-loses-nothing r input x run asks told text when = written-due (KeepsNet x) r Lossy run asks when
    (λ due has. by due (asked-due r Lossy input due asks (told-due r input due told has)))
  where
    by : (due : Due) → IsAnswer r.watchers Lossy input due → KeepsNet x due.kept
    by due (answer y its is) = of-net x due (is ∙ ap (λ (z : LossyData). due_of_lossy z) (lossy-exact.one y x input its text)) text.0
    by due (refusal refused lacks is) = absurd (lossy-exact.apart x input refused text lacks)

-- ---- the whole of a text

gained-less : (bytes text : List ℕ) (old new : Option (List ℕ)) (n : ℕ) → old ≡ Some bytes → new ≡ Some (bytes ++ text) → n < length text → Gains old (take n text) new → ⊥
gained-less bytes text old new n first then less gains =
    (let same : bytes ++ text ≡ bytes ++ take n text =
    subst (λ (o : Option (List ℕ)). Gains (Some bytes) (take n text) o) then (subst (λ (o : Option (List ℕ)). Gains o (take n text) new) first gains) in
    let long = ap length same in
    let whole = length-append bytes text in
    let front = length-append bytes (take n text) in
    let short = length-take-le n text in
    omega arith)

pub whole-no_fault :
    (r : Run) (input bytes : List ℕ) (due : Due) → IsDueOf r.watchers (asked r) input due → IsPut due r.sink_old r.sink_new r.status r.kept
    → r.sink_old.bytes ≡ Some bytes → r.sink_new.bytes ≡ Some (bytes ++ due.text) → r.status ≡ 4 → ⊥
whole-no_fault r input bytes due is (whole at steady gains kept) first then four = due-no r.watchers 4 (asked r) input due is refl refl refl refl refl r.status at four
whole-no_fault r input bytes due is (front n less at rose gains kept) first then four = gained-less bytes due.text r.sink_old.bytes r.sink_new.bytes n first then less gains
