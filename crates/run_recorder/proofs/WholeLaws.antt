-- A whole record, both ways, and its first fault.
use Rattle.std.proofs.Common.{◌≡◌, ℕ, ◌<◌, ◌≤◌, true, List, ◌∷◌, ◌++◌, length, Result, Ok, Err, refl, sym, ap, subst, ◌∙◌}
use Rattle.std.specs.Prelude.{IfOk, IfErr}
use Rattle.std.proofs.lemmas.Bool.{lt-ltb}
use Rattle.game_trait.specs.declared.limits.TheConstants.{LONGEST_RECORD_TEXT}
use Rattle.tss_io.specs.Results.{◌>>=◌}
use Rattle.tss_io.specs.declared.fault.Refused.{Refused}
use Rattle.tss_io.specs.declared.fault.TextFault.{TextFault}
use Rattle.tss_io.specs.declared.fault.TextFault.TheVariants as text_faults
use Rattle.tss_io.specs.Lines.{as_line, lines_text}
use Rattle.tss_io.specs.declared.cause.Cause.TheVariants.{Long}
use Rattle.tss_io.specs.Reading.{refused_at, Gives}
use Rattle.tss_io.proofs.FormLaws.{through}
use Rattle.tss_io.proofs.MachineLaws.{table_text, gives_found, gives_only, gives_refused}
use Rattle.tss_io.proofs.Printing.{lines_text-append}
use Rattle.tss_io.proofs.Spaced.{Lacks}
use Rattle.match_data.specs.Data.{MatchData}
use Rattle.match_file.specs.Around.{read_around}
use Rattle.match_file.specs.Text.{match_lines, match_text}
use Rattle.match_file.proofs.AroundLaws.{ExactTail, around_found, around_first, around_again}
use Rattle.run_recorder.specs.declared.race_record.RaceRecord.{RaceRecord}
use Rattle.run_recorder.specs.declared.tail.Stage.{Stage}
use Rattle.run_recorder.specs.declared.tail.Stage.TheVariants.{Between, InLog, InWorld, Ended}
use Rattle.run_recorder.specs.declared.tail.Tail.{Tail}
use Rattle.run_recorder.specs.Data.{IsRecord}
use Rattle.run_recorder.specs.Kinds.{is_record_ended}
use Rattle.run_recorder.specs.Reading.{record_machine, record_table, is_record_last, no_tail, record_with, read_record, IsFirstOfRecord}
use Rattle.run_recorder.specs.Text.{record_head, last_line, record_mirrors_text, record_text}
use Rattle.run_recorder.proofs.ExactKinds.{small_match}
use Rattle.run_recorder.proofs.TailLaws.{IsTail, no_tail_is, tail_text, record_exact}
use Rattle.run_recorder.proofs.WrittenLaws.{tail_written}

pub record_tail : ExactTail record_machine no_tail IsTail (λ m t. tail_text t)
unfolding record_mirrors_text
record_tail = record {
  exact = λ m is. table_text (record_table m) is_record_last (record_exact m (small_match m is));
  starts = λ m is. no_tail_is m;
  nothing = λ m. refl;
}

ended_is : (stage : Stage) → is_record_ended stage ≡ true → stage ≡ Ended
ended_is Between h = absurd cc
ended_is InLog h = absurd cc
ended_is InWorld h = absurd cc
ended_is Ended h = refl

ended_text : (t : Tail) → t.stage ≡ Ended → tail_text t ≡ record_mirrors_text t.logs t.worlds ++ as_line last_line
ended_text t e = rw e refl

same_record : (a b : RaceRecord) → ◌≡◌ {A = Result RaceRecord Refused} (Ok a) (Ok b) → a ≡ b
same_record a b e = cc

-- what is read was written so
pub whole_found : (text : List ℕ) (r : RaceRecord) → read_record text ≡ Ok r → IsRecord r × (text ≡ record_text r)
unfolding read_record
whole_found text r e = through _ _ _ e (λ (x : MatchData × Tail) x_is e.
    let f = around_found LONGEST_RECORD_TEXT record_head record_tail text x x_is in
    let whole : text ≡ record_text (record_with x) = f.whole ∙ ap (λ (t : List ℕ). as_line record_head ++ (match_text x.0 ++ t)) (ended_text x.1 (ended_is x.1.stage f.last)) in
    let count = f.is.whole f.last in
    let found : IsRecord (record_with x) × (text ≡ record_text (record_with x)) = (
      record {
        game = f.game;
        log_count = count;
        logs = f.is.logs;
        world_count = f.is.level
            ∙ count;
        worlds = f.is.worlds;
        short = subst (λ (t : List ℕ). length t ≤ LONGEST_RECORD_TEXT) whole f.short;
      },
      whole,
    ) in
    subst (λ (k : RaceRecord). IsRecord k × (text ≡ record_text k)) (same_record (record_with x) r e) found)

pub read_with : (text head : List ℕ) (y : MatchData × Tail) → head ≡ record_head → read_around LONGEST_RECORD_TEXT head record_machine no_tail text ≡ Ok y → read_record text ≡ Ok (record_with y)
unfolding read_record
read_with text head y same e =
    let read : read_around LONGEST_RECORD_TEXT record_head record_machine no_tail text ≡ Ok y =
    subst (λ (h : List ℕ). read_around LONGEST_RECORD_TEXT h record_machine no_tail text ≡ Ok y) same e in
    rw read refl

head_lacks : Lacks 10 record_head
head_lacks = (refl, (refl, (refl, (refl, (refl, (refl, (refl, (refl, (refl, (refl, (refl, (refl, tt))))))))))))

abbrev final : RaceRecord → Tail
final r = record no_tail { stage = Ended; logs = r.logs; worlds = r.worlds }

-- the lines of a record
record_lines : (r : RaceRecord) (lines : List (List ℕ)) → record_mirrors_text r.logs r.worlds ++ as_line last_line ≡ lines_text lines
    → record_text r ≡ lines_text (record_head ∷ (match_lines r.game ++ lines))
unfolding lines_text
record_lines r lines e = ap (λ (t : List ℕ). as_line record_head ++ t) (ap (λ (t : List ℕ). match_text r.game ++ t) e ∙ sym (lines_text-append (match_lines r.game) lines))

-- what is written is read
pub whole_read : (r : RaceRecord) → IsRecord r → read_record (record_text r) ≡ Ok r
unfolding read_record
whole_read r is =
    let w = tail_written r.game is.game (small_match r.game is.game) r.logs r.worlds is.log_count is.world_count is.logs is.worlds in
    let e = record_lines r w.lines w.text_is in
    let short = subst (λ (t : List ℕ). length t ≤ LONGEST_RECORD_TEXT) e is.short in
    let read = around_again LONGEST_RECORD_TEXT record_head record_machine no_tail r.game w.lines (final r) refl head_lacks is.game w.whole short w.follows refl in
    rw (e, read) refl

read_err : (a : Result (MatchData × Tail) Refused) (refused : Refused) → (a >>= λ (x : MatchData × Tail). Ok (record_with x)) ≡ Err refused → a ≡ Err refused
read_err (Ok x) refused e = absurd cc
read_err (Err c) refused e = cc

pub refused_first : (text : List ℕ) (refused : Refused) → read_record text ≡ Err refused → IsFirstOfRecord text (text_faults.Refused refused)
unfolding read_record
refused_first text refused e = around_first LONGEST_RECORD_TEXT record_head record_tail text refused (read_err _ refused e)

-- ---- what reading answers

pub found : (text : List ℕ) (r : Result RaceRecord TextFault) → Gives (λ x. x) r (read_record text) → IfOk r (λ x. IsRecord x × (text ≡ record_text x))
found text r h = gives_found _ r (read_record text) h (whole_found text)

pub only : (text : List ℕ) (r : Result RaceRecord TextFault) → Gives (λ x. x) r (read_record text) → (x : RaceRecord) → IsRecord x → text ≡ record_text x → Gives (λ v. v) r (Ok x)
only text r h x is e = gives_only x r (read_record text) h (ap read_record e ∙ whole_read x is)

pub refused : (text : List ℕ) (r : Result RaceRecord TextFault) → Gives (λ x. x) r (read_record text) → IfErr r (IsFirstOfRecord text)
refused text r h = gives_refused (IsFirstOfRecord text) r (read_record text) h tt (refused_first text)

pub long_fails : (text : List ℕ) → LONGEST_RECORD_TEXT < length text → read_record text ≡ Err (refused_at 0 Long)
unfolding read_record read_around
long_fails text long = rw (lt-ltb LONGEST_RECORD_TEXT (length text) long) refl
