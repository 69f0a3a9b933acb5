-- What a walk over a text finds.
use Rattle.std.proofs.Common.{◌≡◌, ℕ, ◌+◌, ◌≤◌, true, false, List, [], ◌∷◌, ◌++◌, length, drop, Result, Ok, Err, refl, sym, ap, ◌∙◌, arith, eqb, length-append, length-drop}
use Rattle.std.proofs.lemmas.Bool.Decides.{nat_tests}
use Rattle.tss_io.specs.declared.cause.Cause.{Cause}
use Rattle.tss_io.specs.declared.cause.Cause.TheVariants.{Long}
use Rattle.tss_io.specs.declared.lines.LineStep.TheVariants as steps
use Rattle.tss_io.specs.Kinds.{is_long, line_at}
use Rattle.tss_io.specs.Lines.{Lines, torn, line, lines_of, text_of, as_line}
use Rattle.tss_io.specs.Walks.{step_at, start_after}
use Rattle.tss_io.proofs.LineLaws.{text_of-lines_of}
use Rattle.tss_io.proofs.KindLaws.{line_takes}
use Rattle.tss_io.proofs.RunLaws.{either}

abbrev Lined : Lines → List ℕ → Lines → Type 0
Lined lines l rest = line_at lines ≡ Ok (l, rest)

first_of : List ℕ → Result (List ℕ × Lines) Cause → List ℕ
first_of k (Ok x) = x.0
first_of k (Err c) = k

-- a line that is there
pub step_line : (start : ℕ) (lines : Lines) (l : List ℕ) (rest : Lines) → Lined lines l rest → (steps.Line start (length l) ≡ step_at start lines) × (start + (length l + 1) ≡ start_after start lines)
unfolding line_at first_of
step_line start (torn bytes) l rest e = either (is_long bytes) _ _ _ (λ _ e. absurd cc) (λ _ e. absurd cc) e
step_line start (line k more) l rest e =
    either (is_long k) _ _ _ (λ _ e. absurd cc) (λ short e. let same : k ≡ l = ap (λ (r : Result (List ℕ × Lines) Cause). first_of k r) e in rw (short, same) (refl, refl)) e

-- as long as the text at least
pub line_within : (bytes l rest : List ℕ) → Lined (lines_of bytes) l (lines_of rest) → bytes ≡ as_line l ++ rest
unfolding text_of
line_within bytes l rest e = sym (text_of-lines_of bytes) ∙ ap text_of (line_takes (lines_of bytes) (l, lines_of rest) e) ∙ ap (λ (t : List ℕ). as_line l ++ t) (text_of-lines_of rest)

-- none that is short enough
pub step_long : (start : ℕ) (lines : Lines) → line_at lines ≡ Err Long → steps.Long ≡ step_at start lines
unfolding line_at
step_long start (torn []) e = absurd cc
step_long start (torn (b ∷ bytes)) e = either (is_long (b ∷ bytes)) _ _ _ (λ long e. rw long refl) (λ _ e. absurd cc) e
step_long start (line l rest) e = either (is_long l) _ _ _ (λ long e. rw long refl) (λ _ e. absurd cc) e

-- where none is, the walk stays
pub start_stays : (start : ℕ) (lines : Lines) (c : Cause) → line_at lines ≡ Err c → start ≡ start_after start lines
unfolding line_at
start_stays start (torn bytes) c e = refl
start_stays start (line l rest) c e = either (is_long l) _ _ _ (λ long e. rw long refl) (λ _ e. absurd cc) e

-- none at all
pub step_none : (start : ℕ) (bytes : List ℕ) (c : Cause) → line_at (lines_of bytes) ≡ Err c → (c ≡ Long → ⊥) → bytes ≡ [] → steps.End ≡ step_at start (lines_of bytes)
unfolding lines_of
step_none start bytes c e other none = rw none refl

-- none that is closed
pub step_torn : (start : ℕ) (bytes : List ℕ) (lines : Lines) (c : Cause) → lines_of bytes ≡ lines → line_at lines ≡ Err c → (c ≡ Long → ⊥) → (bytes ≡ [] → ⊥) → steps.Torn ≡ step_at start lines
unfolding line_at text_of
step_torn start bytes (torn []) c whole e other some = absurd (some (sym (text_of-lines_of bytes) ∙ ap text_of whole))
step_torn start bytes (torn (b ∷ more)) c whole e other some = either (is_long (b ∷ more)) _ _ _ (λ _ e. absurd (other cc)) (λ short e. rw short refl) e
step_torn start bytes (line l rest) c whole e other some = either (is_long l) _ _ _ (λ _ e. absurd (other cc)) (λ _ e. absurd cc) e

-- behind a line the walk is still in the text
pub walk_within : (text : List ℕ) (start : ℕ) (l rest : List ℕ) → start ≤ length text → Lined (lines_of (drop start text)) l (lines_of rest) → start + (length l + 1) ≤ length text
walk_within text start l rest small e =
    let whole = ap length (line_within (drop start text) l rest e) in
    omega (arith, whole, length-drop start text, length-append (as_line l) rest, length-append l (10 ∷ []))

pub no_bytes : (bytes : List ℕ) → eqb (length bytes) 0 ≡ true → bytes ≡ []
no_bytes [] e = refl
no_bytes (b ∷ bytes) e = absurd (grind (arith, nat_tests))

pub some_bytes : (bytes : List ℕ) → eqb (length bytes) 0 ≡ false → bytes ≡ [] → ⊥
some_bytes bytes e none = let k : eqb (length bytes) 0 ≡ true = rw none refl in absurd cc
