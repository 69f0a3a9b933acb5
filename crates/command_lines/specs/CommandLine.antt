-- The line of a command, as words.
use Rattle.std.specs.Prelude.{◌≡◌, ℕ, ◌≤◌, ◌<◌, ◌-◌, Bool, true, ◌==◌, List, [], ◌∷◌, Result, if◌then◌else◌, codes}
use Rattle.game_trait.specs.declared.command.Act.{Act}
use Rattle.game_trait.specs.declared.command.Act.TheVariants.{Go, Left, Right, Shoot, Dash}
use Rattle.game_trait.specs.declared.command.Command.{Command}
use Rattle.game_trait.specs.declared.limits.TheConstants.{LONGEST_MATCH, MOST_MIRRORS, MOST_PLAYERS, MOST_PLAYERS_IN_1, GREATEST_NUMBER}
use Rattle.tss_io.specs.declared.cause.Cause.{Cause}
use Rattle.tss_io.specs.Lines.{spaced}
use Rattle.tss_io.specs.Forms.{number, choice, Form, only, ◌&◌, made, InRange}
use Rattle.tss_io.specs.Kinds.{Kind, line_words, keyword_checks}
use Rattle.command_lines.specs.declared.ranges.CommandRanges.{CommandRanges}
use Rattle.game_trait.specs.Acts.{has_act}

-- the word of an act
abbrev pub act_word : Act → List ℕ
act_word Go = codes "go"
act_word Left = codes "left"
act_word Right = codes "right"
act_word Shoot = codes "shoot"
act_word Dash = codes "dash"

-- the acts of a version: a dash from version 2 on
abbrev pub acts_of : ℕ → List Act
acts_of version =
    if version == 1 then Go ∷ Left ∷ Right ∷ Shoot ∷ [] else Go ∷ Left ∷ Right ∷ Shoot ∷ Dash ∷ []

-- the greatest number of a player that the lines of a version may have
abbrev pub last_player : ℕ → ℕ
last_player version = if version == 1 then MOST_PLAYERS_IN_1 - 1 else MOST_PLAYERS - 1

-- the widest ranges of a version
abbrev pub widest : ℕ → CommandRanges
widest version =
    record {
      last_time = LONGEST_MATCH - 1;
      last_mirror = MOST_MIRRORS - 1;
      last_player = last_player version;
    }

-- time, mirror, number, player and act
abbrev pub command_form : ℕ → CommandRanges
    → Form (List ℕ × (List ℕ × (List ℕ × (List ℕ × Act)))) Command
command_form version ranges = made
    (λ c. record {
      time = c.0;
      from = c.1.0;
      number = c.1.1.0;
      player = c.1.1.1.0;
      act = c.1.1.1.1;
    })
    (λ c. (c.time, (c.from, (c.number, (c.player, c.act)))))
    (number 0 ranges.last_time & number 0 ranges.last_mirror & number 0 GREATEST_NUMBER
    & number 0 ranges.last_player & only (choice act_word (acts_of version)))

-- the words of a command's line at first sight, in whatever ranges its numbers are to be
abbrev pub command_see : ℕ → List (List ℕ)
    → Result (List ℕ × (List ℕ × (List ℕ × (List ℕ × Act)))) Cause
command_see version = (command_form version (widest version)).see

-- the command of such words, whose numbers are to be in these ranges
abbrev pub command_value : CommandRanges → List ℕ × (List ℕ × (List ℕ × (List ℕ × Act)))
    → Result Command Cause
command_value ranges = (command_form 1 ranges).value

-- a command of these ranges, whose act is one of the version
abbrev pub CommandFits : ℕ → CommandRanges → Command → Type 0
CommandFits version ranges c =
    InRange 0 ranges.last_time c.time
    × (InRange 0 ranges.last_mirror c.from
    × (InRange 0 GREATEST_NUMBER c.number
    × (InRange 0 ranges.last_player c.player × (has_act version c.act ≡ true))))

-- a line of a command alone
abbrev pub line_kind : ℕ
    → Kind (Unit {0}) (List ℕ × (List ℕ × (List ℕ × (List ℕ × Act)))) Command Command
line_kind version = record {
  keyword = codes "cmd";
  form = λ _. command_form version (widest version);
  stands = λ _. true;
  room = λ _ _. true;
  tests = λ _ _. [];
  put = λ _ c. c;
}

-- a command that a line of the version can give
pub record IsCommandLine (version : ℕ) (c : Command) : Type 0 where
  pub time : c.time < LONGEST_MATCH
  pub from : c.from < MOST_MIRRORS
  pub number : c.number ≤ GREATEST_NUMBER
  pub player : c.player ≤ last_player version
  pub act : has_act version c.act ≡ true

-- the one line of a command
abbrev pub command_line : Command → List ℕ
command_line c = spaced (line_words (line_kind 2) tt c)

-- every check of a command's line in its order: that its first word is `cmd`, its shape, and its
-- numbers
abbrev pub command_checks : ℕ → List ℕ → List (Bool × Cause)
command_checks version line = keyword_checks (line_kind version) tt line
