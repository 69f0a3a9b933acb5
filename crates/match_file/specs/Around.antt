-- Texts that hold a match: a first line, the lines of a match, and those of what follows it.
use Rattle.std.specs.Prelude.{ℕ, Bool, false, nat_lt, List, ◌∷◌, [], length, Result, Ok, Err, if◌then◌else◌, bytes_eq}
use Rattle.tss_io.specs.declared.cause.Cause.{Cause}
use Rattle.tss_io.specs.declared.cause.Cause.TheVariants.{Head, Long}
use Rattle.tss_io.specs.declared.fault.Refused.{Refused}
use Rattle.tss_io.specs.Kinds.{line_at}
use Rattle.tss_io.specs.Lines.{Lines, lines_of}
use Rattle.tss_io.specs.Machines.{Machine}
use Rattle.tss_io.specs.Reading.{refused_at}
use Rattle.tss_io.specs.Results.{◌>>=◌}
use Rattle.tss_io.specs.Runs.{at, Follows, run_to, ended}
use Rattle.match_data.specs.Data.{MatchData}
use Rattle.match_file.specs.Reading.{At, head_due, length_due, grid_due, mirrors_due, delays_due, pace_due, in_body, take_line, checks_of, at_last, match_of, read_match}

-- the machine of a match text
abbrev pub match_machine : Machine At
match_machine = record { take = take_line; checks = checks_of; is_last = at_last }

-- which line of such a text is due, and what was read before it
pub data Around (T : Type 0) : Type 0 where
  first_due : Around T
  in_match : At → Around T
  behind : MatchData → T → Around T

-- behind the last line of the match: the match that was read, and nothing of what follows
abbrev pub behind_match : {T : Type 0} → T → At → Around T
behind_match start head_due = in_match head_due
behind_match start (length_due version) = in_match (length_due version)
behind_match start (grid_due version length) = in_match (grid_due version length)
behind_match start (mirrors_due version length sides) = in_match (mirrors_due version length sides)
behind_match start (delays_due version length sides mirrors) =
    in_match (delays_due version length sides mirrors)
behind_match start (pace_due version length sides mirrors delays) =
    in_match (pace_due version length sides mirrors delays)
behind_match start (in_body o b) = behind (match_of o b) start

-- where a line of the match leads
abbrev pub after_line : {T : Type 0} → T → At → Around T
after_line start a = if at_last a then behind_match start a else in_match a

-- the first line
abbrev pub first_step : List ℕ → List ℕ → Result (Unit {0}) Cause
first_step head l = if bytes_eq l head then Ok tt else Err Head

-- a line is taken by what is due
abbrev pub take_around : {T : Type 0} → List ℕ → (MatchData → Machine T) → T → Around T → List ℕ
    → Result (Around T) Cause
take_around head tail start first_due l = first_step head l >>= λ _. Ok (in_match head_due)
take_around head tail start (in_match a) l = take_line a l >>= λ b. Ok (after_line start b)
take_around head tail start (behind m t) l = (tail m).take t l >>= λ u. Ok (behind m u)

-- every check of it, in their order
abbrev pub checks_around : {T : Type 0} → List ℕ → (MatchData → Machine T) → Around T → List ℕ
    → List (Bool × Cause)
checks_around head tail first_due l = (bytes_eq l head, Head) ∷ []
checks_around head tail (in_match a) l = checks_of a l
checks_around head tail (behind m t) l = (tail m).checks t l

-- no line may come where none may come behind the match
abbrev pub last_around : {T : Type 0} → (MatchData → Machine T) → Around T → Bool
last_around tail first_due = false
last_around tail (in_match a) = false
last_around tail (behind m t) = (tail m).is_last t

-- the machine of such a text: its first line, and the machine behind the match and where it starts
abbrev pub around : {T : Type 0} → List ℕ → (MatchData → Machine T) → T → Machine (Around T)
around head tail start = record {
  take = take_around head tail start;
  checks = checks_around head tail;
  is_last = last_around tail;
}

-- good lines alone led here
abbrev pub IsMet : {S : Type 0} → Machine S → S → S → Type 0
IsMet m start s = (front : List (List ℕ)) × Follows m.take m.is_last start front s

-- the lines behind the first
abbrev pub first_at : List ℕ → Lines → Result (Unit {0} × Lines) Cause
first_at head lines = line_at lines >>= λ l. first_step head l.0 >>= λ t. Ok (t, l.1)

-- what the lines behind this match say, up to the end of the text; the first one has this number
abbrev pub rest_at : {T : Type 0} → (MatchData → Machine T) → T → MatchData → ℕ → Lines
    → Result (MatchData × T) Refused
rest_at tail start m n lines =
    run_to (tail m).take (tail m).is_last n start lines >>= λ stop.
    ended stop >>= λ t.
    Ok (m, t)

-- what such a text says, within this limit
unfoldable pub read_around : {T : Type 0} → ℕ → List ℕ → (MatchData → Machine T) → T → List ℕ
    → Result (MatchData × T) Refused
read_around longest head tail start text =
    if nat_lt longest (length text) then Err (refused_at 0 Long)
    else (at 1 (first_at head (lines_of text)) >>= λ first.
    read_match 2 first.1 >>= λ game.
    rest_at tail start game.0 game.1.next game.1.rest)
