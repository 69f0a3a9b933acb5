-- What a match needs to be joined and to be looked at, and where it is too late to be joined.
use Rattle.std.proofs.Common.{◌≡◌, true, false, Bool, ℕ, zero, suc, ◌<◌, ◌≤◌, ◌⊎◌, List, [], ◌∷◌, Option, Some, length, inl, inr, ap, subst, refl, ◌∙◌, arith}
use Rattle.std.specs.Prelude.{nat_le, slice_index_or}
use Rattle.std.specs.List.{list_all, Contains}
use Rattle.std.proofs.lemmas.Bool.Decides.{nat_tests}
use Rattle.tss_io.specs.declared.cause.Cause.TheVariants.{Number}
use Rattle.tss_io.specs.Reading.{refused_at}
use Rattle.tss_io.specs.Streams.{Gains}
use Rattle.arena_rules.specs.World.{opening_world}
use Rattle.match_data.specs.Data.{MatchData, IsMatch}
use Rattle.match_file.specs.Text.{match_text}
use Rattle.match_join.specs.declared.answer.JoinAnswer.TheVariants.{Told, TooLate}
use Rattle.match_join.specs.Join.{IsTooLate, too_late_text}
use Rattle.watch_board.specs.Behaviour.{Behaviour}
use Rattle.tss_words.specs.declared.subcommand.MatchTask.{MatchTask}
use Rattle.tss_words.specs.declared.subcommand.MatchTask.TheVariants.{Join, Rewind}
use Rattle.tss_words.specs.declared.subcommand.Subcommand.{Subcommand}
use Rattle.tss_words.specs.declared.subcommand.Subcommand.TheVariants.{OfMatch}
use Rattle.tss_words.specs.Subcommands.{subcommand_of}
use Rattle.tss_program.specs.declared.due.Due.{Due}
use Rattle.tss_program.specs.Due.{answer, refusal, IsMatchText, IsMatchAnswer, IsJoined, joined, no_mirror, are_within, due_of_rewind, refusal_due, mirrors_line, length_line}
use Rattle.tss_program.specs.Due.{IsAnswer, IsDue, IsDueOf, code}
use Rattle.tss_program.specs.Run.{Run, asked, IsRun, whole, front, no_memory, unread, answered, Ends}
use Rattle.tss_program.proofs.Texts.{match-exact}
use Rattle.tss_program.proofs.Within.{both}
use Rattle.tss_program.proofs.AnswerLaws.{not}
use Rattle.tss_program.proofs.RunLaws.{by-due, told-due, asked-due}

-- what is due for the text of a match is what is answered to it
pub text-answered :
    (ws : List Behaviour) (task : MatchTask) (m : MatchData) (input : List ℕ) (due : Due) → IsMatchText m input → IsAnswer ws (OfMatch task) input due → IsMatchAnswer ws task m due
text-answered ws task m input due text (answer n its is) = subst (λ (x : MatchData). IsMatchAnswer ws task x due) (match-exact.one n m input its text) is
text-answered ws task m input due text (refusal refused lacks is) = absurd (match-exact.apart m input refused text lacks)

-- the same of words
words-answered :
    (ws : List Behaviour) (words : List (List ℕ)) (task : MatchTask) (m : MatchData) (due : Due) → subcommand_of words ≡ Some (OfMatch task) → IsMatch m
    → IsDue ws words (match_text m) due → IsMatchAnswer ws task m due
words-answered ws words task m due asks sound is =
    text-answered ws task m (match_text m) due (sound, refl) (subst (λ (o : Option Subcommand). IsDueOf ws o (match_text m) due) asks is)

-- ---- a mirror that the match doesn't have

pub join-refused : (number lines : ℕ) (m : MatchData) (due : Due) → m.mirrors ≤ number → IsJoined number lines m due → due ≡ refusal_due (refused_at mirrors_line Number)
join-refused number lines m due none (joined a there told is) = absurd (omega (arith, there, none))
join-refused number lines m due none (no_mirror also is) = is

pub join-due-refused :
    (ws : List Behaviour) (words : List (List ℕ)) (m : MatchData) (number lines : ℕ) (due : Due) → subcommand_of words ≡ Some (OfMatch (Join number lines)) → IsMatch m
    → m.mirrors ≤ number → IsDue ws words (match_text m) due → due ≡ refusal_due (refused_at mirrors_line Number)
join-due-refused ws words m number lines due asks sound none is = join-refused number lines m due none (words-answered ws words (Join number lines) m due asks sound is)

-- ---- a tick past the end

-- each tick of a list that is within is so
each-within : (n : ℕ) (ts : List ℕ) (k t : ℕ) → list_all (λ u. nat_le u n) ts ≡ true → k < length ts → slice_index_or ts k t ≡ t → t ≤ n
each-within n [] k t all there is = absurd (omega (arith, there))
each-within n (u ∷ ts) zero t all there is = (let first = both (nat_le u n) (list_all (λ v. nat_le v n) ts) all in let same : u ≡ t = is in grind (arith, nat_tests))
each-within n (u ∷ ts) (suc k) t all there is = each-within n ts k t (both (nat_le u n) (list_all (λ v. nat_le v n) ts) all).1 (omega (arith, there)) is

pub looks-refused : (room : ℕ) (ticks : List ℕ) (m : MatchData) (tick : ℕ) → Contains ticks tick → m.length < tick → due_of_rewind room ticks m ≡ refusal_due (refused_at length_line Number)
looks-refused room ticks m tick there past = by (are_within m ticks) refl
  where
    by : (within : Bool) → are_within m ticks ≡ within → due_of_rewind room ticks m ≡ refusal_due (refused_at length_line Number)
    by true is = absurd (let least = each-within m.length ticks there.0 tick is there.1 there.2 in omega (arith, least, past))
    by false is = rw is refl

pub looks-due-refused :
    (ws : List Behaviour) (words : List (List ℕ)) (m : MatchData) (every room : ℕ) (ticks : List ℕ) (tick : ℕ) (due : Due) → subcommand_of words ≡ Some (OfMatch (Rewind every room ticks)) → IsMatch m
    → Contains ticks tick → m.length < tick → IsDue ws words (match_text m) due → due ≡ refusal_due (refused_at length_line Number)
looks-due-refused ws words m every room ticks tick due asks sound there past is =
    words-answered ws words (Rewind every room ticks) m due asks sound is ∙ looks-refused room ticks m tick there past

-- ---- too late

pub run-joins-late-text :
    (r : Run) (input : List ℕ) (m : MatchData) (number lines : ℕ) → IsRun r → asked r ≡ Some (OfMatch (Join number lines)) → r.source_old.left ≡ Some input → IsMatchText m input
    → r.status ≡ 7 → Gains r.sink_old.bytes (too_late_text m.length m.length) r.sink_new.bytes
run-joins-late-text r input m number lines run asks told text seven = by-due (Gains r.sink_old.bytes (too_late_text m.length m.length) r.sink_new.bytes) r 7 run refl refl refl seven
    (λ due has is kept gains. by due is gains
    (text-answered r.watchers (Join number lines) m input due text (asked-due r (OfMatch (Join number lines)) input due asks (told-due r input due told has))))
  where
    by : (due : Due) → code due.status ≡ 7 → Gains r.sink_old.bytes due.text r.sink_new.bytes → IsJoined number lines m due → Gains r.sink_old.bytes (too_late_text m.length m.length) r.sink_new.bytes
    by due is gains (joined (Told t) there tells same) = absurd (not 0 7 (code due.status) refl (ap (λ (d : Due). code d.status) same) is)
    by due is gains (joined (TooLate t) there tells same) = subst (λ (l : List ℕ). Gains r.sink_old.bytes l r.sink_new.bytes) (ap (λ (d : Due). d.text) same ∙ tells.1) gains
    by due is gains (no_mirror none same) = absurd (not 5 7 (code due.status) refl (ap (λ (d : Due). code d.status) same) is)

abbrev TellsTooLate : ℕ → Type 0
TellsTooLate status = (status ≡ 1) ⊎ (status ≡ 3) ⊎ (status ≡ 4) ⊎ (status ≡ 7)

pub run-joins-only-late :
    (r : Run) (input : List ℕ) (m : MatchData) (number lines : ℕ) → IsRun r → asked r ≡ Some (OfMatch (Join number lines)) → r.source_old.left ≡ Some input → IsMatchText m input
    → number < m.mirrors → IsTooLate (opening_world m.layout) m number lines → TellsTooLate r.status
run-joins-only-late r input m number lines run asks told text there late = by run.ends
  where
    of : (due : Due) → r.status ≡ code due.status → IsJoined number lines m due → TellsTooLate r.status
    of due is (joined (Told t) has tells same) = absurd (let left = tells.left in omega (arith, left, late))
    of due is (joined (TooLate t) has tells same) = inr (inr (inr (is ∙ ap (λ (d : Due). code d.status) same)))
    of due is (no_mirror none same) = absurd (omega (arith, none, there))

    by : Ends r → TellsTooLate r.status
    by (no_memory is a steady silent) = inl is
    by (unread is a rose silent) = inr (inl is)
    by (answered due has (whole is steady gains kept)) =
        of due is (text-answered r.watchers (Join number lines) m input due text (asked-due r (OfMatch (Join number lines)) input due asks (told-due r input due told has)))
    by (answered due has (front n less is rose gains kept)) = inr (inr (inl is))
