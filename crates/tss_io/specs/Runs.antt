-- Line after line, and the first fault of a text.
use Rattle.std.specs.Prelude.{Bool, Err, List, None, Ok, Option, Result, Some, [], false, not, if◌then◌else◌, length, true, ℕ, ◌+◌, ◌∷◌, ◌≡◌}
use Rattle.tss_io.specs.declared.cause.Cause.{Cause}
use Rattle.tss_io.specs.declared.cause.Cause.TheVariants.{End, Long}
use Rattle.tss_io.specs.declared.fault.Refused.{Refused}
use Rattle.tss_io.specs.Reading.{refused_at}
use Rattle.tss_io.specs.Kinds.{first_failing, fault_of, is_long, line_at}
use Rattle.tss_io.specs.Lines.{Lines, torn, line}
use Rattle.tss_io.specs.Results.{◌>>=◌}

-- the answer for this line
abbrev pub at : {T : Type 0} → ℕ → Result T Cause → Result T Refused
at n (Ok t) = Ok t
at n (Err cause) = Err (refused_at n cause)

-- no byte is left
abbrev pub is_end : Lines → Bool
is_end (torn []) = true
is_end (torn (b ∷ bytes)) = false
is_end (line l rest) = false

-- the next line, taken, and the lines after it
unfoldable pub line_step : {S : Type 0} → (S → List ℕ → Result S Cause) → S → Lines
    → Result (S × Lines) Cause
line_step take s lines = line_at lines >>= λ l. take s l.0 >>= λ t. Ok (t, l.1)

-- line after line from this one on, up to the one after which no more may come
unfoldable pub run : {S : Type 0} → (S → List ℕ → Result S Cause) → (S → Bool) → ℕ → S → Lines
    → Result S Refused
run take is_last n s (torn bytes) =
    if is_last s then (if is_end (torn bytes) then Ok s else Err (refused_at n End))
    else Err (refused_at n (if is_long bytes then Long else End))
run take is_last n s (line l rest) =
    if is_last s then Err (refused_at n End)
    else (if is_long l then Err (refused_at n Long)
    else (at n (take s l) >>= λ t. run take is_last (n + 1) t rest))

-- these lines, and then those
unfoldable pub ahead : List (List ℕ) → Lines → Lines
ahead [] rest = rest
ahead (l ∷ more) rest = line l (ahead more rest)

-- these lines are taken, one after another, and lead from s to t
unfoldable pub Follows : {S : Type 0} → (S → List ℕ → Result S Cause) → (S → Bool) → S
    → List (List ℕ) → S → Type 0
Follows take is_last s [] t = s ≡ t
Follows {S = S} take is_last s (l ∷ more) t =
    (is_last s ≡ false) × (is_long l ≡ false) × (mid : S) × (take s l ≡ Ok mid)
    × Follows take is_last mid more t

-- the fault of the line that comes after s
abbrev pub stop_at : {S : Type 0} → (S → List ℕ → Result S Cause) → (S → Bool) → S → Lines
    → Option Cause
stop_at take is_last s (torn bytes) =
    if is_last s then (if is_end (torn bytes) then None else Some End)
    else Some (if is_long bytes then Long else End)
stop_at take is_last s (line l rest) =
    if is_last s then Some End
    else (if is_long l then Some Long
    else fault_of (take s l))

-- where line after line stops: behind these good lines, at a line with this fault
pub record StopsAt {S : Type 0} (take : S → List ℕ → Result S Cause) (is_last : S → Bool) (n : ℕ)
    (s : S) (lines : Lines) (refused : Refused) : Type 0 where
  pub front : List (List ℕ)
  pub met : S
  pub rest : Lines
  pub whole : lines ≡ ahead front rest
  pub good : Follows take is_last s front met
  pub number : refused.line ≡ n + length front
  pub cause : stop_at take is_last met rest ≡ Some refused.cause

-- where a run stopped: what it came to, the number of the next line, and the lines from that one on
pub record Stop (S : Type 0) : Type 0 where
  pub state : S
  pub next : ℕ
  pub rest : Lines

-- such a place
abbrev pub stopped : {S : Type 0} → S → ℕ → Lines → Stop S
stopped s n rest = record { state = s; next = n; rest = rest }

-- line after line, up to the one after which no more may come
unfoldable pub run_to : {S : Type 0} → (S → List ℕ → Result S Cause) → (S → Bool) → ℕ → S → Lines
    → Result (Stop S) Refused
run_to take is_last n s (torn bytes) =
    if is_last s then Ok (record { state = s; next = n; rest = torn bytes })
    else Err (refused_at n (if is_long bytes then Long else End))
run_to take is_last n s (line l rest) =
    if is_last s then Ok (record { state = s; next = n; rest = line l rest })
    else (if is_long l then Err (refused_at n Long)
    else (at n (take s l) >>= λ t. run_to take is_last (n + 1) t rest))

-- nothing stands behind
abbrev pub ended : {S : Type 0} → Stop S → Result S Refused
ended x = if is_end x.rest then Ok x.state else Err (refused_at x.next End)

-- good lines led to this place, and the last of them is the last that may come
pub record RanTo {S : Type 0} (take : S → List ℕ → Result S Cause) (is_last : S → Bool) (n : ℕ)
    (s : S) (lines : Lines) (x : Stop S) : Type 0 where
  pub front : List (List ℕ)
  pub whole : lines ≡ ahead front x.rest
  pub good : Follows take is_last s front x.state
  pub last : is_last x.state ≡ true
  pub number : x.next ≡ n + length front

-- every check of the line that comes after s, in its order: that it is there, that it isn't too
-- long, that a newline closes it, and those of its kind
abbrev pub line_checks : {S : Type 0} → (S → List ℕ → List (Bool × Cause)) → (S → Bool) → S → Lines
    → List (Bool × Cause)
line_checks checks is_last s (torn []) = (is_last s, End) ∷ []
line_checks checks is_last s (torn (b ∷ bytes)) =
    (not (is_last s), End) ∷ (not (is_long (b ∷ bytes)), Long) ∷ (false, End) ∷ []
line_checks checks is_last s (line l rest) =
    (not (is_last s), End) ∷ (not (is_long l), Long) ∷ checks s l

-- a refusal names the first line that is wrong behind the good lines before it, and that line's
-- first failing check
pub record FirstFault {S : Type 0} (take : S → List ℕ → Result S Cause)
    (checks : S → List ℕ → List (Bool × Cause)) (is_last : S → Bool) (n : ℕ) (s : S) (lines : Lines)
    (refused : Refused) : Type 0 where
  pub front : List (List ℕ)
  pub met : S
  pub rest : Lines
  pub whole : lines ≡ ahead front rest
  pub good : Follows take is_last s front met
  pub number : refused.line ≡ n + length front
  pub cause : first_failing (line_checks checks is_last met rest) ≡ Some refused.cause
