-- What a run reads of a source that tells its input.
use Rattle.std.proofs.Common.{◌≡◌, true, false, Bool, ℕ, ◌+◌, ◌<◌, ◌≤◌, ◌⊎◌, List, [], ◌++◌, Option, Some, None, length, drop, inl, inr, sym, ap, subst, refl, ◌∙◌, arith}
use Rattle.std.specs.Prelude.{nat_eq, nat_lt}
use Rattle.std.proofs.lemmas.Bool.Decides.{nat_tests}
use Rattle.std.proofs.lemmas.List.{drop_all, nil_from_length}
use Rattle.game_trait.specs.declared.limits.TheConstants.{LONGEST_MATCH_TEXT, LONGEST_RECORD_TEXT, LONGEST_LOSSY_TEXT}
use Rattle.tss_io.specs.Streams.{Yields}
use Rattle.match_data.specs.Data.{MatchData}
use Rattle.run_recorder.specs.declared.race_record.RaceRecord.{RaceRecord}
use Rattle.lossy_text.specs.Data.{LossyData}
use Rattle.watch_board.specs.Behaviour.{Behaviour}
use Rattle.tss_words.specs.declared.subcommand.Subcommand.{Subcommand}
use Rattle.tss_words.specs.declared.subcommand.Subcommand.TheVariants.{OfMatch, Audit, Lossy, Soak}
use Rattle.tss_words.specs.Subcommands.{most_asked}
use Rattle.tss_program.specs.declared.due.Due.{Due}
use Rattle.tss_program.specs.Due.{answer, refusal, IsMatchText, IsRecordText, IsLossyText, IsDueOf, code}
use Rattle.tss_program.specs.Run.{behind, Run, asked, IsRun}
use Rattle.tss_program.proofs.Inputs.{over-match, over-record, over-lossy}
use Rattle.tss_program.proofs.AnswerLaws.{not}
use Rattle.tss_program.proofs.RunLaws.{by-due, told-due}

-- ---- a front

-- what was taken from a source that tells its input
taken-front : (input front : List ℕ) (old new : Option (List ℕ)) → old ≡ Some input → Yields old front new → (rest : List ℕ) × (input ≡ front ++ rest) × (new ≡ Some rest)
taken-front input front old new told yields = by new (subst (λ (o : Option (List ℕ)). Yields o front new) told yields)
  where
    by : (new : Option (List ℕ)) → Yields (Some input) front new → (rest : List ℕ) × (input ≡ front ++ rest) × (new ≡ Some rest)
    by (Some rest) yields = (rest, yields, refl)
    by None yields = absurd yields

abbrev ReadsFront : Run → List ℕ → Type 0
ReadsFront r input = (read : List ℕ) × (rest : List ℕ) × (input ≡ read ++ rest) × (length read ≤ most_asked (asked r)) × (r.source_new.left ≡ Some rest)

pub run-reads-front : (r : Run) (input : List ℕ) → IsRun r → r.source_old.left ≡ Some input → ReadsFront r input
run-reads-front r input run told =
    let front = run.most.front in
    let left = taken-front input front.0 r.source_old.left r.source_new.left told front.2 in
    (front.0, left.0, left.1, front.1, left.2)

-- words that ask for nothing to be read leave all of it
pub run-reads-nothing : (r : Run) (input : List ℕ) → IsRun r → r.source_old.left ≡ Some input → most_asked (asked r) ≡ 0 → r.source_new.left ≡ Some input
run-reads-nothing r input run told none = by (run-reads-front r input run told)
  where
    by : ReadsFront r input → r.source_new.left ≡ Some input
    by (read, rest, is, few, left) =
        (let empty : read ≡ [] = nil_from_length read (omega (arith, few, none)) in
        left ∙ ap (λ (l : List ℕ). Some l) (sym (is ∙ ap (λ (l : List ℕ). l ++ rest) empty)))

-- ---- to its end

within : (limit n : ℕ) → (limit < n → ⊥) → n ≤ limit
within limit n never = by (nat_lt limit n) refl
  where
    by : (over : Bool) → nat_lt limit n ≡ over → n ≤ limit
    by true is = absurd (never (grind (arith, nat_tests)))
    by false is = grind (arith, nat_tests)

-- texts of what is read are within their limits
short-match : (m : MatchData) (input : List ℕ) → IsMatchText m input → length input ≤ LONGEST_MATCH_TEXT
short-match m input text = within LONGEST_MATCH_TEXT (length input) (λ over. (over-match input over).no_match m text.0 text.1)

short-record : (q : RaceRecord) (input : List ℕ) → IsRecordText q input → length input ≤ LONGEST_RECORD_TEXT
short-record q input text = within LONGEST_RECORD_TEXT (length input) (λ over. (over-record input over).no_record q text.0 text.1)

short-lossy : (x : LossyData) (input : List ℕ) → IsLossyText x input → length input ≤ LONGEST_LOSSY_TEXT
short-lossy x input text = within LONGEST_LOSSY_TEXT (length input) (λ over. (over-lossy input over).no_lossy x text.0 text.1)

-- what is answered and no refusal was read whole
short-read :
    (ws : List Behaviour) (what : Option Subcommand) (input : List ℕ) (due : Due) → IsDueOf ws what input due → 0 < most_asked what → (code due.status ≡ 5 → ⊥)
    → length input < most_asked what
short-read ws None input due is reads five = absurd (omega (arith, reads))
short-read ws (Some (OfMatch task)) input due (answer m text is) reads five = (let short = short-match m input text in omega (arith, short))
short-read ws (Some (OfMatch task)) input due (refusal refused lacks is) reads five = absurd (five (ap (λ (d : Due). code d.status) is))
short-read ws (Some Audit) input due (answer q text is) reads five = (let short = short-record q input text in omega (arith, short))
short-read ws (Some Audit) input due (refusal refused lacks is) reads five = absurd (five (ap (λ (d : Due). code d.status) is))
short-read ws (Some Lossy) input due (answer x text is) reads five = (let short = short-lossy x input text in omega (arith, short))
short-read ws (Some Lossy) input due (refusal refused lacks is) reads five = absurd (five (ap (λ (d : Due). code d.status) is))
short-read ws (Some (Soak n)) input due is reads five = absurd (omega (arith, reads))

-- what stands behind the first bytes of an input that is told
behind-told : (n : ℕ) (input : List ℕ) (left : Option (List ℕ)) → left ≡ Some input → behind n left ≡ Some (drop n input)
unfolding behind
behind-told n input left told = ap (behind n) told

pub run-reads-whole :
    (r : Run) (input : List ℕ) → IsRun r → r.source_old.left ≡ Some input → 0 < most_asked (asked r)
    → (r.status ≡ 0) ⊎ (r.status ≡ 6) ⊎ (r.status ≡ 7) → r.source_new.left ≡ Some []
run-reads-whole r input run told reads when = by when
  where
    at : (n : ℕ) → nat_eq 1 n ≡ false → nat_eq 3 n ≡ false → nat_eq 4 n ≡ false → nat_eq n 5 ≡ false → r.status ≡ n → r.source_new.left ≡ Some []
    at n one three four five is = by-due (r.source_new.left ≡ Some []) r n run one three four is (λ due has code_is kept gains.
        (let short = short-read r.watchers (asked r) input due (told-due r input due told has) reads (λ at. not n 5 (code due.status) five code_is at) in
        has.left ∙ behind-told (most_asked (asked r)) input r.source_old.left told
        ∙ ap (λ (l : List ℕ). Some l) (drop_all (most_asked (asked r)) input (omega (arith, short)))))

    by : (r.status ≡ 0) ⊎ (r.status ≡ 6) ⊎ (r.status ≡ 7) → r.source_new.left ≡ Some []
    by (inl is) = at 0 refl refl refl refl is
    by (inr (inl is)) = at 6 refl refl refl refl is
    by (inr (inr is)) = at 7 refl refl refl refl is

pub run-reads-refused : (r : Run) (input : List ℕ) → IsRun r → r.source_old.left ≡ Some input → r.status ≡ 5 → r.source_new.left ≡ Some (drop (most_asked (asked r)) input)
run-reads-refused r input run told five = by-due (r.source_new.left ≡ Some (drop (most_asked (asked r)) input)) r 5 run refl refl refl five
    (λ due has is kept gains. has.left ∙ behind-told (most_asked (asked r)) input r.source_old.left told)
