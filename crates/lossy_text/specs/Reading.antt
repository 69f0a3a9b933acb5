-- Reading a lossy text, and the first fault.
use Rattle.std.specs.Prelude.{ℕ, List, Result, Ok}
use Rattle.tss_io.specs.declared.fault.Refused.{Refused}
use Rattle.tss_io.specs.declared.fault.TextFault.{TextFault}
use Rattle.tss_io.specs.declared.fault.TextFault.TheVariants as text_faults
use Rattle.tss_io.specs.Machines.{IsFirstOf}
use Rattle.tss_io.specs.Results.{◌>>=◌}
use Rattle.match_data.specs.Data.{MatchData}
use Rattle.match_file.specs.Around.{first_due, around, read_around}
use Rattle.game_trait.specs.declared.limits.TheConstants.{LONGEST_LOSSY_TEXT}
use Rattle.lossy_text.specs.declared.tail.Tail.{Tail}
use Rattle.lossy_text.specs.Data.{LossyData}
use Rattle.lossy_text.specs.Kinds.{net_machine, no_tail}
use Rattle.lossy_text.specs.Text.{lossy_head}

-- the match that was read, and the lines that were read behind it
abbrev pub lossy_with : MatchData × Tail → LossyData
lossy_with x = record { game = x.0; lines = x.1.lines }

-- what a text says
abbrev pub read_lossy : List ℕ → Result LossyData Refused
read_lossy text =
    read_around LONGEST_LOSSY_TEXT lossy_head net_machine no_tail text >>= λ x. Ok (lossy_with x)

-- the refusal is of the whole text for its length, or names the first faulty line and that line's
-- first failing check
abbrev pub IsFirstOfLossy : List ℕ → TextFault → Type 0
IsFirstOfLossy text text_faults.NoMemory = Unit {0}
IsFirstOfLossy text (text_faults.Refused refused) =
    IsFirstOf LONGEST_LOSSY_TEXT (around lossy_head net_machine no_tail) first_due text refused
