-- The words of a command line, and how much of an input they ask to read.
use Rattle.std.specs.Prelude.{ℕ, ◌<◌, ◌≤◌, ◌+◌, ◌-◌, ◌^◌, ◌&&◌, Bool, true, false, List, [], ◌∷◌, Option, Some, None, option_map, option_and_then, nat_le, length, bytes_eq, codes, if◌then◌else◌}
use Rattle.std.specs.List.{AllByRecursion}
use Rattle.tss_io.specs.Decimals.{number_of}
use Rattle.game_trait.specs.declared.limits.TheConstants.{LONGEST_MATCH, LONGEST_MATCH_TEXT, LONGEST_RECORD_TEXT, LONGEST_LOSSY_TEXT, MOST_CACHED, MOST_MIRRORS, MOST_SCRIPT_LINES}
use Rattle.tss_words.specs.declared.ticks.TheConstants.{MOST_LOOKS}
use Rattle.tss_words.specs.declared.subcommand.MatchTask.{MatchTask}
use Rattle.tss_words.specs.declared.subcommand.MatchTask.TheVariants.{Order, Play, Race, Lift, Score, PaintOrder, PaintPlay, Join, Rewind}
use Rattle.tss_words.specs.declared.subcommand.Subcommand.{Subcommand}
use Rattle.tss_words.specs.declared.subcommand.Subcommand.TheVariants.{OfMatch, Audit, Lossy, Soak}

-- the subcommand whose name is one word
unfoldable pub subcommand_named : List ℕ → Option Subcommand
subcommand_named word =
    if bytes_eq word (codes "order") then Some (OfMatch Order)
    else (if bytes_eq word (codes "play") then Some (OfMatch Play)
    else (if bytes_eq word (codes "race") then Some (OfMatch Race)
    else (if bytes_eq word (codes "lift") then Some (OfMatch Lift)
    else (if bytes_eq word (codes "score") then Some (OfMatch Score)
    else (if bytes_eq word (codes "audit") then Some Audit
    else (if bytes_eq word (codes "lossy") then Some Lossy
    else None))))))

-- a number of a match is a canonical decimal below 2 ^ 32
unfoldable pub soak_of : List ℕ → Option Subcommand
soak_of word = option_map (λ n. Soak n) (number_of word (2 ^ 32 - 1))

-- what is asked of a match in the game of painting
unfoldable pub paint_of : List ℕ → Option Subcommand
paint_of word =
    if bytes_eq word (codes "order") then Some (OfMatch PaintOrder)
    else (if bytes_eq word (codes "play") then Some (OfMatch PaintPlay) else None)

-- to join from a mirror after a number of lines of the script: both are canonical decimals, of a mirror
-- and a number of lines that some match has
unfoldable pub join_of : List ℕ → List ℕ → Option Subcommand
join_of mirror lines =
    option_and_then
    (λ m. option_map (λ k. OfMatch (Join m k)) (number_of lines MOST_SCRIPT_LINES))
    (number_of mirror (MOST_MIRRORS - 1))

-- the number whose canonical decimal the word is, where it lies between these
unfoldable pub number_between : List ℕ → ℕ → ℕ → Option ℕ
number_between word least most =
    option_and_then (λ n. if nat_le least n then Some n else None) (number_of word most)

-- the numbers whose canonical decimals the words are, where each is at most so great
unfoldable pub numbers_of : List (List ℕ) → ℕ → Option (List ℕ)
numbers_of [] most = Some []
numbers_of (word ∷ words) most =
    option_and_then (λ n. option_map (λ ns. n ∷ ns) (numbers_of words most)) (number_of word most)

-- the ticks that words are, where these are 1 to `MOST_LOOKS`
unfoldable pub ticks_of : List (List ℕ) → Option (List ℕ)
ticks_of words =
    if nat_le 1 (length words) && nat_le (length words) MOST_LOOKS
    then numbers_of words LONGEST_MATCH
    else None

-- to look at a match at ticks: a world is kept every 1 to 8,192 ticks, and 1 to 64 of
-- those that were looked up
unfoldable pub rewind_of : List ℕ → List ℕ → List (List ℕ) → Option Subcommand
rewind_of every room ticks =
    option_and_then
    (λ e. option_and_then
    (λ c. option_map (λ ts. OfMatch (Rewind e c ts)) (ticks_of ticks))
    (number_between room 1 MOST_CACHED))
    (number_between every 1 LONGEST_MATCH)

-- what two words ask for: `soak` and a number, or `paint` and what is asked of the match
unfoldable pub two_of : List ℕ → List ℕ → Option Subcommand
two_of word next =
    if bytes_eq word (codes "soak") then soak_of next
    else (if bytes_eq word (codes "paint") then paint_of next else None)

-- what three words and more ask for: `join` with a mirror and a number of lines, or `rewind` with
-- how worlds are kept and the ticks
unfoldable pub longer_of : List ℕ → List ℕ → List ℕ → List (List ℕ) → Option Subcommand
longer_of word next third [] = if bytes_eq word (codes "join") then join_of next third else None
longer_of word next third (tick ∷ ticks) =
    if bytes_eq word (codes "rewind") then rewind_of next third (tick ∷ ticks) else None

-- the subcommand that words ask for
unfoldable pub subcommand_of : List (List ℕ) → Option Subcommand
subcommand_of [] = None
subcommand_of (word ∷ []) = subcommand_named word
subcommand_of (word ∷ next ∷ []) = two_of word next
subcommand_of (word ∷ next ∷ third ∷ more) = longer_of word next third more

-- the ranges in which worlds may be kept for looks at a match: at every 1 to 8,192 ticks, and 1 to
-- 64 of those that were looked up
pub record IsKept (every room : ℕ) : Type 0 where
  pub some_ticks : 0 < every
  pub few_ticks : every ≤ LONGEST_MATCH
  pub some_room : 0 < room
  pub little_room : room ≤ MOST_CACHED

-- ticks at which a match may be looked at: 1 to 16, each a tick of some match, or its end
pub record AreLooks (ticks : List ℕ) : Type 0 where
  pub some : 0 < length ticks
  pub few : length ticks ≤ MOST_LOOKS
  pub within : AllByRecursion (λ t. t ≤ LONGEST_MATCH) ticks

-- what is asked of a match is in its ranges
abbrev pub IsAskedOfMatch : MatchTask → Type 0
IsAskedOfMatch Order = Unit {0}
IsAskedOfMatch Play = Unit {0}
IsAskedOfMatch Race = Unit {0}
IsAskedOfMatch Lift = Unit {0}
IsAskedOfMatch Score = Unit {0}
IsAskedOfMatch PaintOrder = Unit {0}
IsAskedOfMatch PaintPlay = Unit {0}
IsAskedOfMatch (Join mirror lines) = (mirror < MOST_MIRRORS) × (lines ≤ MOST_SCRIPT_LINES)
IsAskedOfMatch (Rewind every room ticks) = IsKept every room × AreLooks ticks

-- the same of whatever words ask for
abbrev pub IsAsked : Subcommand → Type 0
IsAsked (OfMatch task) = IsAskedOfMatch task
IsAsked Audit = Unit {0}
IsAsked Lossy = Unit {0}
IsAsked (Soak number) = Unit {0}

-- how many bytes of an input a subcommand reads at most: as many as the text that it reads may
-- have, and one more; none where it reads no text
abbrev pub most_read : Subcommand → ℕ
most_read (OfMatch task) = LONGEST_MATCH_TEXT + 1
most_read Audit = LONGEST_RECORD_TEXT + 1
most_read Lossy = LONGEST_LOSSY_TEXT + 1
most_read (Soak number) = 0

-- the same of words: where they ask for nothing, nothing is read
abbrev pub most_asked : Option Subcommand → ℕ
most_asked None = 0
most_asked (Some subcommand) = most_read subcommand

-- a match is to be raced, which needs threads
abbrev pub is_race : MatchTask → Bool
is_race Order = false
is_race Play = false
is_race Race = true
is_race Lift = false
is_race Score = false
is_race PaintOrder = false
is_race PaintPlay = false
is_race (Join mirror lines) = false
is_race (Rewind every room ticks) = false

-- words ask for a race
abbrev pub races : Option Subcommand → Bool
races None = false
races (Some (OfMatch task)) = is_race task
races (Some Audit) = false
races (Some Lossy) = false
races (Some (Soak number)) = false
