-- A text that holds a match, both ways, and its first fault, from the laws of what follows the match.
use Rattle.std.proofs.Common.{◌≡◌, ℕ, ◌+◌, ◌≤◌, Bool, true, false, cond, ltb, List, [], ◌∷◌, ◌++◌, length, Result, Ok, Err, refl, sym, ap, subst, ◌∙◌, append_assoc, append-nil}
use Rattle.std.specs.Prelude.{bytes_eq}
use Rattle.std.specs.List.{AllByRecursion}
use Rattle.std.proofs.lemmas.Bool.{le-ltb}
use Rattle.tss_io.specs.Results.{◌>>=◌}
use Rattle.tss_io.specs.declared.cause.Cause.{Cause}
use Rattle.tss_io.specs.declared.cause.Cause.TheVariants.{Head, Long, End}
use Rattle.tss_io.specs.declared.fault.Refused.{Refused}
use Rattle.tss_io.specs.Lines.{Lines, torn, line, lines_of, as_line, lines_text}
use Rattle.tss_io.specs.Reading.{refused_at}
use Rattle.tss_io.specs.Kinds.{first_failing, fault_of, is_long}
use Rattle.tss_io.specs.Machines.{Machine, reads, IsFirstOf}
use Rattle.tss_io.specs.Runs.{at, is_end, ahead, Follows, Stop, run_to, ended}
use Rattle.tss_io.proofs.FormLaws.{through, same_words, bytes_eq-same}
use Rattle.tss_io.proofs.KindLaws.{line_again, one_test}
use Rattle.tss_io.proofs.Results.{then, unless_ok}
use Rattle.tss_base.proofs.ListLaws.{all_append}
use Rattle.tss_io.proofs.RunLaws.{bind_assoc}
use Rattle.tss_io.proofs.RunToLaws.{to_again}
use Rattle.tss_io.proofs.Spaced.{Lacks}
use Rattle.tss_io.proofs.MachineLaws.{SaidText, ExactText, follows_text, one_more, text_found, text_first, lines_whole, run_step, run_inside, run_as, bind_same}
use Rattle.match_file.specs.declared.body.Body.{Body}
use Rattle.match_file.specs.declared.opening.Opening.{Opening}
use Rattle.match_data.specs.Data.{MatchData, IsMatch}
use Rattle.match_file.specs.Reading.{is_last, match_of, as_match, match_at, read_match, At, head_due, length_due, grid_due, mirrors_due, delays_due, pace_due, in_body, take_line, at_last}
use Rattle.match_file.specs.Sections.{IsRead}
use Rattle.match_file.specs.Text.{match_lines, match_text}
use Rattle.match_file.specs.Around.{Around, first_due, in_match, behind, behind_match, after_line, first_step, take_around, checks_around, last_around, around, IsMet, first_at, read_around}
use Rattle.match_file.proofs.AtLaws.{IsAt, at_said, at_exact, match_is, chain}
use Rattle.match_file.proofs.MatchIsRead.{opening_of, body_of, is_read}
use Rattle.match_file.proofs.ReadIsMatch.{is_match_of}
use Rattle.match_file.proofs.ReadLaws.{ahead_more, all_lack}
use Rattle.match_file.proofs.TextLaws.{read_lines, match_said, match_reads}

-- the machine behind a match is exact, for every match
pub record ExactTail {T : Type 0} (tail : MatchData → Machine T) (start : T) (Is : MatchData → T → Type 0) (said : MatchData → T → List ℕ) : Type 0 where
  pub exact : (m : MatchData) → IsMatch m → ExactText (tail m) (Is m) (said m)
  pub starts : (m : MatchData) → IsMatch m → Is m start
  pub nothing : (m : MatchData) → said m start ≡ []

-- what each line keeps is true wherever good lines alone led
pub met_is : {T : Type 0} {tail : MatchData → Machine T} {start : T} {Is : MatchData → T → Type 0} {said : MatchData → T → List ℕ} → ExactTail tail start Is said
    → (m : MatchData) (t : T) → IsMatch m → IsMet (tail m) start t → Is m t
met_is {start = start} x m t is met = (follows_text (x.exact m is) start met.0 t (x.starts m is) met.1).1

-- what is always true of such a text, as far as it was read
abbrev pub IsAround : {T : Type 0} → (MatchData → T → Type 0) → Around T → Type 0
IsAround Is first_due = Unit {0}
IsAround Is (in_match a) = IsAt a
IsAround Is (behind m t) = IsMatch m × Is m t

-- and what was read of it
abbrev pub around_said : {T : Type 0} → List ℕ → (MatchData → T → List ℕ) → Around T → List ℕ
around_said head said first_due = []
around_said head said (in_match a) = as_line head ++ lines_text (at_said a)
around_said head said (behind m t) = as_line head ++ (match_text m ++ said m t)

-- ---- each line says itself

first_said : (head : List ℕ) → as_line head ++ lines_text [] ≡ as_line head
unfolding lines_text
first_said head = append-nil (as_line head)

same_around : {T : Type 0} (a b : Around T) → ◌≡◌ {A = Result (Around T) Cause} (Ok a) (Ok b) → a ≡ b
same_around a b e = cc

-- the last line of a match leads behind it, and what was read is that match
after_says : {T : Type 0} {tail : MatchData → Machine T} {start : T} {Is : MatchData → T → Type 0} {said : MatchData → T → List ℕ} (head : List ℕ) → ExactTail tail start Is said
    → (lines : List (List ℕ)) (a : At) → at_said a ≡ lines → IsAt a → (around_said head said (after_line start a) ≡ as_line head ++ lines_text lines) × IsAround Is (after_line start a)
after_says head x lines head_due e is = (ap (λ (ls : List (List ℕ)). as_line head ++ lines_text ls) e, is)
after_says head x lines (length_due version) e is = (ap (λ (ls : List (List ℕ)). as_line head ++ lines_text ls) e, is)
after_says head x lines (grid_due version length) e is = (ap (λ (ls : List (List ℕ)). as_line head ++ lines_text ls) e, is)
after_says head x lines (mirrors_due version length sides) e is = (ap (λ (ls : List (List ℕ)). as_line head ++ lines_text ls) e, is)
after_says head x lines (delays_due version length sides mirrors) e is = (ap (λ (ls : List (List ℕ)). as_line head ++ lines_text ls) e, is)
after_says head x lines (pace_due version length sides mirrors delays) e is = (ap (λ (ls : List (List ℕ)). as_line head ++ lines_text ls) e, is)
after_says {start = start} {Is = Is} {said = said} head x lines (in_body o b) e is =
    elim (is_last b) as (λ t. is_last b ≡ t → (around_said head said (cond t (behind (match_of o b) start) (in_match (in_body o b)))
    ≡ as_line head ++ lines_text lines) × IsAround Is (cond t (behind (match_of o b) start) (in_match (in_body o b)))) [
      | true ↦ λ last.
          let read : IsRead o b = record { opening = is.0; body = is.1; ended = last } in
          let sound = is_match_of o b read in
          let whole : match_text (match_of o b) ++ said (match_of o b) start
          ≡ lines_text lines = rw (x.nothing (match_of o b)) (append-nil (match_text (match_of o b))) ∙ ap lines_text (read_lines o b read ∙ e) in
          (ap (λ (t : List ℕ). as_line head ++ t) whole, (sound, x.starts (match_of o b) sound))
      | false ↦ λ _. (ap (λ (ls : List (List ℕ)). as_line head ++ lines_text ls) e, is)
    ] refl

around_says : {T : Type 0} {tail : MatchData → Machine T} {start : T} {Is : MatchData → T → Type 0} {said : MatchData → T → List ℕ} (head : List ℕ) → ExactTail tail start Is said
    → (s : Around T) (l : List ℕ) (t : Around T) → IsAround Is s → is_long l ≡ false → take_around head tail start s l ≡ Ok t → SaidText (IsAround Is) (around_said head said) s l t
around_says {Is = Is} {said = said} head x first_due l t is short e = through _ _ _ e (λ u u_is e.
    let g = unless_ok (bytes_eq l head) Head tt u u_is in
    subst (SaidText (IsAround Is) (around_said head said) first_due l) (same_around (in_match head_due) t e) (first_said head ∙ ap as_line (sym (same_words l head g.0)), tt))
around_says {start = start} {Is = Is} {said = said} head x (in_match a) l t is short e = through _ _ _ e (λ b b_is e.
    let k = at_exact.says a l b is short b_is in
    let after = after_says head x (at_said a ++ l ∷ []) b k.0 k.1 in
    let more = ap (λ (v : List ℕ). as_line head ++ v) (one_more (at_said a) l) ∙ sym (append_assoc (as_line head) (lines_text (at_said a)) (as_line l)) in
    subst (SaidText (IsAround Is) (around_said head said) (in_match a) l) (same_around (after_line start b) t e) (after.0 ∙ more, after.1))
around_says {Is = Is} {said = said} head x (behind m s) l t is short e = through _ _ _ e (λ u u_is e.
    let k = (x.exact m is.0).says s l u is.1 short u_is in
    subst (SaidText (IsAround Is) (around_said head said) (behind m s) l) (same_around (behind m u) t e) (
      ap (λ (v : List ℕ). as_line head ++ (match_text m ++ v)) k.0 ∙ ap (λ (v : List ℕ). as_line head ++ v) (sym (append_assoc (match_text m) (said m s) (as_line l)))
          ∙ sym (append_assoc (as_line head) (match_text m ++ said m s) (as_line l)),
      (is.0, k.1),
    ))

then_fault : {S T : Type 0} (r : Result S Cause) (next : S → T) → fault_of (r >>= λ u. Ok (next u)) ≡ fault_of r
then_fault (Ok u) next = refl
then_fault (Err c) next = refl

around_fault : {T : Type 0} {tail : MatchData → Machine T} {start : T} {Is : MatchData → T → Type 0} {said : MatchData → T → List ℕ} (head : List ℕ) → ExactTail tail start Is said
    → (s : Around T) (l : List ℕ) → IsAround Is s → fault_of (take_around head tail start s l) ≡ first_failing (checks_around head tail s l)
around_fault head x first_due l is = then_fault (first_step head l) _ ∙ one_test (bytes_eq l head) tt Head
around_fault head x (in_match a) l is = then_fault (take_line a l) _ ∙ at_exact.fault a l is
around_fault {tail = tail} head x (behind m s) l is = then_fault ((tail m).take s l) _ ∙ (x.exact m is.0).fault s l is.1

pub around_exact : {T : Type 0} {tail : MatchData → Machine T} {start : T} {Is : MatchData → T → Type 0} {said : MatchData → T → List ℕ} (head : List ℕ) → ExactTail tail start Is said
    → ExactText (around head tail start) (IsAround Is) (around_said head said)
around_exact head x = record { says = λ s l t is short e. around_says head x s l t is short e; fault = λ s l is. around_fault head x s l is }

-- ---- in stages

abbrev run : {T : Type 0} → List ℕ → (MatchData → Machine T) → T → ℕ → Around T → Lines → Result (Stop (Around T)) Refused
run head tail start n s lines = run_to (take_around head tail start) (last_around tail) n s lines

abbrev behind_at : {T : Type 0} → MatchData → Stop T → Stop (Around T)
behind_at m x = record { state = behind m x.state; next = x.next; rest = x.rest }

tail_is : {T : Type 0} (head : List ℕ) (tail : MatchData → Machine T) (start : T) (m : MatchData) (n : ℕ) (lines : Lines)
    → run head tail start n (behind m start) lines ≡ (run_to (tail m).take (tail m).is_last n start lines >>= λ (x : Stop T). Ok (behind_at m x))
tail_is head tail start m n lines = run_as (tail m).take (tail m).is_last (take_around head tail start) (last_around tail) (behind m) (λ _. refl) (λ s l. refl) n start lines

-- the match, and what follows it
game_is : {T : Type 0} (head : List ℕ) (tail : MatchData → Machine T) (start : T) (n : ℕ) (lines : Lines)
    → run head tail start n (in_match head_due) lines ≡ (read_match n lines
    >>= λ (game : MatchData × Stop (Unit {0})). run_to (tail game.0).take (tail game.0).is_last game.1.next start game.1.rest >>= λ (x : Stop T). Ok (behind_at game.0 x))
unfolding read_match
game_is {T = T} head tail start n lines =
    run_inside take_line at_last (take_around head tail start) (last_around tail) in_match (behind_match start) (λ _. refl) (λ s l. refl) n head_due lines refl
    ∙ ap (λ (r : Result (Stop At) Refused). r >>= λ (x : Stop At). run head tail start x.next (behind_match start x.state) x.rest) (match_is n lines)
    ∙ bind_assoc (match_at n lines) _ _
    ∙ bind_same (match_at n lines) _ _ (λ x. tail_is head tail start (match_of x.0 x.1.state) x.1.next x.1.rest)
    ∙ sym (bind_assoc (match_at n lines) (λ (x : Opening × Stop Body). Ok (as_match x)) _)

-- the whole text
around_is : {T : Type 0} (head : List ℕ) (tail : MatchData → Machine T) (start : T) (n : ℕ) (lines : Lines)
    → run head tail start n first_due lines ≡ (at n (first_at head lines) >>= λ (first : Unit {0} × Lines). read_match (n + 1) first.1
    >>= λ (game : MatchData × Stop (Unit {0})). run_to (tail game.0).take (tail game.0).is_last game.1.next start game.1.rest >>= λ (x : Stop T). Ok (behind_at game.0 x))
around_is head tail start n lines =
    run_step (take_around head tail start) (last_around tail) n first_due (first_step head) (λ _. in_match head_due) lines refl (λ _. refl)
    ∙ bind_same _ _ _ (λ first. game_is head tail start (n + 1) first.1)

abbrev both : {T : Type 0} → MatchData × T → Result (Around T) Refused
both x = Ok (behind x.0 x.1)

ended_is : {T : Type 0} (m : MatchData) (x : Stop T) → ended (behind_at m x) ≡ ((ended x >>= λ (t : T). Ok (m, t)) >>= both)
ended_is m x = end_is m x (is_end x.rest)
  where
    end_is : {T : Type 0} (m : MatchData) (x : Stop T) (b : Bool)
        → ◌≡◌ {A = Result (Around T) Refused} (cond b (Ok (behind m x.state)) (Err (refused_at x.next End))) ((cond b (Ok x.state) (Err (refused_at x.next End)) >>= λ (t : T). Ok (m, t)) >>= both)
    end_is m x true = refl
    end_is m x false = refl

-- what such a text says is where its machine ends
pub reads_is : {T : Type 0} (longest : ℕ) (head : List ℕ) (tail : MatchData → Machine T) (start : T) (text : List ℕ)
    → reads longest (around head tail start) first_due text ≡ (read_around longest head tail start text >>= both)
unfolding reads read_around
reads_is {T = T} longest head tail start text =
    elim (ltb longest (length text)) as (λ b. cond b (Err (refused_at 0 Long)) (run head tail start 1 first_due (lines_of text) >>= ended)
    ≡ (cond b (Err (refused_at 0 Long)) (at 1 (first_at head (lines_of text)) >>= λ (first : Unit {0} × Lines). read_match 2 first.1
    >>= λ (game : MatchData × Stop (Unit {0})). run_to (tail game.0).take (tail game.0).is_last game.1.next start game.1.rest >>= λ (x : Stop T). ended x
    >>= λ (t : T). Ok (game.0, t)) >>= both)) [
      | true ↦ refl
      | false ↦
          ap (λ (r : Result (Stop (Around T)) Refused). r >>= ended) (around_is head tail start 1 (lines_of text))
          ∙ bind_assoc (at 1 (first_at head (lines_of text))) _ _
          ∙ chain (at 1 (first_at head (lines_of text))) _ _ _ (λ first. bind_assoc (read_match 2 first.1) _ _
          ∙ chain (read_match 2 first.1) _ _ _ (λ game. bind_assoc (run_to (tail game.0).take (tail game.0).is_last game.1.next start game.1.rest) _ _
          ∙ chain (run_to (tail game.0).take (tail game.0).is_last game.1.next start game.1.rest) _ _ _ (λ x. ended_is game.0 x)))
    ]

-- ---- the laws

pub record AroundFound {T : Type 0} (longest : ℕ) (head : List ℕ) (tail : MatchData → Machine T) (Is : MatchData → T → Type 0) (said : MatchData → T
    → List ℕ) (text : List ℕ) (x : MatchData × T) : Type 0 where
  pub game : IsMatch x.0
  pub is : Is x.0 x.1
  pub last : (tail x.0).is_last x.1 ≡ true
  pub whole : text ≡ as_line head ++ (match_text x.0 ++ said x.0 x.1)
  pub short : length text ≤ longest

-- what is read was written so
pub around_found : {T : Type 0} {tail : MatchData → Machine T} {start : T} {Is : MatchData → T → Type 0} {said : MatchData → T → List ℕ} (longest : ℕ) (head : List ℕ) → ExactTail tail start Is said
    → (text : List ℕ) (x : MatchData × T) → read_around longest head tail start text ≡ Ok x → AroundFound longest head tail Is said text x
around_found {tail = tail} {start = start} longest head exact text x e =
    let w = text_found (around_exact head exact) longest first_due text (behind x.0 x.1) tt refl (reads_is longest head tail start text ∙ rw e refl) in
    record { game = w.is.0; is = w.is.1; last = w.last; whole = w.whole; short = w.short }

-- a refusal names the first faulty line and its first failing check
pub around_first : {T : Type 0} {tail : MatchData → Machine T} {start : T} {Is : MatchData → T → Type 0} {said : MatchData → T → List ℕ} (longest : ℕ) (head : List ℕ) → ExactTail tail start Is said
    → (text : List ℕ) (refused : Refused) → read_around longest head tail start text ≡ Err refused → IsFirstOf longest (around head tail start) first_due text refused
around_first {tail = tail} {start = start} longest head exact text refused e =
    text_first (around_exact head exact) longest first_due text refused tt (reads_is longest head tail start text ∙ rw e refl)

-- no line of a match has a newline
pub match_lacks : (m : MatchData) → IsMatch m → AllByRecursion (Lacks 10) (match_lines m)
match_lacks m is = rw (match_said m is) (all_lack (opening_of m) (body_of m) (is_read m is).opening (is_read m is).body)

-- what is written is read
pub around_again : {T : Type 0} (longest : ℕ) (head : List ℕ) (tail : MatchData → Machine T) (start : T) (m : MatchData) (lines : List (List ℕ)) (t : T)
    → is_long head ≡ false → Lacks 10 head → IsMatch m → AllByRecursion (Lacks 10) lines → length (lines_text (head ∷ (match_lines m ++ lines))) ≤ longest
    → Follows (tail m).take (tail m).is_last start lines t → (tail m).is_last t ≡ true → read_around longest head tail start (lines_text (head ∷ (match_lines m ++ lines))) ≡ Ok (m, t)
unfolding read_around ahead
around_again longest head tail start m lines t fits lacks is all short good last =
    let whole : lines_of (lines_text (head ∷ (match_lines m ++ lines))) ≡ line head (ahead (match_lines m) (ahead lines (torn []))) =
    lines_whole (head ∷ (match_lines m ++ lines)) (lacks, all_append (Lacks 10) (match_lines m) lines (match_lacks m is) all) ∙ ap (line head) (ahead_more (match_lines m) lines (torn [])) in
    let first : first_at head (line head (ahead (match_lines m) (ahead lines (torn [])))) ≡ Ok (tt, ahead (match_lines m) (ahead lines (torn []))) =
    then _ _ _ _ (line_again head _ fits) (rw (bytes_eq-same head) refl) in
    rw (le-ltb longest _ short, whole, first, match_reads 2 m (ahead lines (torn [])) is, to_again (tail m).take (tail m).is_last _ _ start lines t (torn []) good last refl) refl
