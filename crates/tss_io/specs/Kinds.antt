-- Kinds of lines, as data: how a line is read, and every check of a line in its order.
use Rattle.std.specs.Prelude.{Bool, Err, List, None, Ok, Option, Result, Some, [], bytes_eq, false, if◌then◌else◌, length, nat_lt, true, ℕ, ◌&&◌, ◌++◌, ◌∷◌, ◌≡◌}
use Rattle.std.specs.List.{AllByRecursion}
use Rattle.tss_io.specs.declared.cause.Cause.{Cause}
use Rattle.tss_io.specs.declared.cause.Cause.TheVariants.{Shape, Number, Many, End, Long}
use Rattle.tss_io.specs.Forms.{front_at, Form}
use Rattle.tss_io.specs.Lines.{Lines, torn, line, words_of}
use Rattle.tss_io.specs.Results.{◌>>=◌}
use Rattle.tss_io.specs.declared.limits.TheConstants.{LONGEST_LINE}

-- the first failing test gives its cause
abbrev pub checked : {T : Type 0} → List (Bool × Cause) → T → Result T Cause
checked [] t = Ok t
checked (test ∷ tests) t = if test.0 then checked tests t else Err test.1

-- a kind of line, met at an S: its form there, whether it may stand there, whether there is room
-- for these words, the tests of the value in their order, and what follows from the S and the
-- value
pub record Kind (S R A T : Type 0) : Type 0 where
  pub keyword : List ℕ
  pub form : S → Form R A
  pub stands : S → Bool
  pub room : S → List (List ℕ) → Bool
  pub tests : S → A → List (Bool × Cause)
  pub put : S → A → T

-- the line of such a kind: it may stand there and its words have their shape, there is room, the
-- numbers are right, and the tests hold, in this order
abbrev pub step : {S R A T : Type 0} → Kind S R A T → S → List (List ℕ) → Result T Cause
step k s words =
    if k.stands s then ((k.form s).see words >>= λ seen.
    if k.room s words then ((k.form s).value seen >>= λ a. checked (k.tests s a) (k.put s a))
    else Err Many)
    else Err Shape

-- the first of the tests that fails
abbrev pub first_failing : List (Bool × Cause) → Option Cause
first_failing [] = None
first_failing (test ∷ tests) = if test.0 then first_failing tests else Some test.1

-- the fault of what was read
abbrev pub fault_of : {T E : Type 0} → Result T E → Option E
fault_of (Ok t) = None
fault_of (Err e) = Some e

-- something was read
abbrev pub is_right : {T E : Type 0} → Result T E → Bool
is_right (Ok t) = true
is_right (Err e) = false

-- the tests of a value that was read
abbrev pub tests_of_value : {S R A T : Type 0} → Kind S R A T → S → Result A Cause
    → List (Bool × Cause)
tests_of_value k s (Ok a) = k.tests s a
tests_of_value k s (Err cause) = []

-- every test of a line in its order: its shape, its count, its numbers, and the tests of its value
abbrev pub all_tests : {S R A T : Type 0} → Kind S R A T → S → List (List ℕ) → List (Bool × Cause)
all_tests k s words =
    (k.stands s && is_right ((k.form s).see words), Shape)
    ∷ (k.room s words, Many)
    ∷ (is_right ((k.form s).see words >>= (k.form s).value), Number)
    ∷ tests_of_value k s ((k.form s).see words >>= (k.form s).value)

-- a line of such a kind, as its words
abbrev pub line_words : {S R A T : Type 0} → Kind S R A T → S → A → List (List ℕ)
line_words k s a = k.keyword ∷ (k.form s).words a

-- a line is too long
abbrev pub is_long : List ℕ → Bool
is_long bytes = nat_lt LONGEST_LINE (length bytes)

-- the next line, and the lines after it
unfoldable pub line_at : Lines → Result (List ℕ × Lines) Cause
line_at (torn bytes) = if is_long bytes then Err Long else Err End
line_at (line l rest) = if is_long l then Err Long else Ok (l, rest)

-- the words behind this first word of the next line, and the lines after it
unfoldable pub keyword_line_at : List ℕ → Lines → Result (List (List ℕ) × Lines) Cause
keyword_line_at keyword lines = do
  l ← line_at lines
  words ← front_at (words_of l.0)
  if bytes_eq words.0 keyword then Ok (words.1, l.1) else Err Shape

-- a line that must come once: its T, and the lines after it
abbrev pub once : {S R A T : Type 0} → Kind S R A T → S → Lines → Result (T × Lines) Cause
once k s lines = keyword_line_at k.keyword lines >>= λ l. step k s l.0 >>= λ t. Ok (t, l.1)

-- a line by a kind, where its first word is the kind's
abbrev pub keyword_step : {S R A T : Type 0} → Kind S R A T → S → List ℕ → Result T Cause
keyword_step k s l =
    front_at (words_of l) >>= λ words.
    if bytes_eq words.0 k.keyword then step k s words.1 else Err Shape

-- each of the items is right behind those before it
unfoldable pub EachAfter : {A : Type 0} → (List A → A → Type 0) → List A → List A → Type 0
EachAfter Right before [] = Unit {0}
EachAfter Right before (a ∷ more) = Right before a × EachAfter Right (before ++ a ∷ []) more

-- each of the tests holds
abbrev pub Hold : List (Bool × Cause) → Type 0
Hold tests = AllByRecursion (λ test. test.0 ≡ true) tests

-- a value is right where a kind of line meets it: it may stand there, it fits the form, there is
-- room, and its tests hold
pub record Sound {S R A T : Type 0} (k : Kind S R A T) (Fits : S → A → Type 0) (s : S)
    (a : A) : Type 0 where
  pub stands : k.stands s ≡ true
  pub fits : Fits s a
  pub room : k.room s ((k.form s).words a) ≡ true
  pub tests : Hold (k.tests s a)

-- every check of a line that must be of a kind, in their order: its first word, and those of the
-- words behind it
abbrev pub front_checks : {S R A T : Type 0} → Kind S R A T → S
    → Result (List ℕ × List (List ℕ)) Cause → List (Bool × Cause)
front_checks k s (Ok front) = (bytes_eq front.0 k.keyword, Shape) ∷ all_tests k s front.1
front_checks k s (Err cause) = (false, Shape) ∷ []

-- the same of a line as its bytes
abbrev pub keyword_checks : {S R A T : Type 0} → Kind S R A T → S → List ℕ → List (Bool × Cause)
keyword_checks k s l = front_checks k s (front_at (words_of l))
