-- Reading a record: the kinds of line behind its match, what a text says, and the first fault.
use Rattle.std.specs.Prelude.{ℕ, Bool, List, [], ◌∷◌, ◌++◌, Result, Ok, codes}
use Rattle.game_trait.specs.declared.event.Event.TheVariants.{Tick}
use Rattle.game_trait.specs.declared.limits.TheConstants.{LONGEST_RECORD_TEXT}
use Rattle.tss_io.specs.declared.cause.Cause.{Cause}
use Rattle.tss_io.specs.declared.fault.Refused.{Refused}
use Rattle.tss_io.specs.declared.fault.TextFault.{TextFault}
use Rattle.tss_io.specs.declared.fault.TextFault.TheVariants as text_faults
use Rattle.tss_io.specs.Lines.{as_line}
use Rattle.tss_io.specs.Machines.{Entry, entry, alone, Table, take_by, Machine, machine_of, IsFirstOf}
use Rattle.tss_io.specs.Results.{◌>>=◌}
use Rattle.match_file.specs.Around.{first_due, around, read_around}
use Rattle.match_data.specs.Data.{MatchData}
use Rattle.run_recorder.specs.declared.race_record.RaceRecord.{RaceRecord}
use Rattle.run_recorder.specs.declared.tail.Stage.TheVariants.{Between, Ended}
use Rattle.run_recorder.specs.declared.tail.Tail.{Tail}
use Rattle.run_recorder.specs.Kinds.{is_record_ended, is_in_world, is_event_due, is_end_due, closed, with_event, log_kind, record_arrive_kind}
use Rattle.run_recorder.specs.Kinds.{record_step_kind, record_restagger_kind, record_world_kind}
use Rattle.run_recorder.specs.Text.{record_head, last_line, is_block_line}

-- the kinds of line behind the match that a first word names
unfoldable pub record_entries : MatchData → List (Entry Tail)
record_entries m =
    entry (record_arrive_kind m) ∷ entry (record_step_kind m) ∷ entry (record_world_kind m)
    ∷ entry (log_kind m) ∷ entry (record_restagger_kind m) ∷ []

-- and all of them
abbrev pub record_table : MatchData → Table Tail
record_table m = record {
  wholes =
      alone (codes "tick") is_event_due (λ t. with_event t Tick)
      ∷ alone last_line (is_end_due m) (λ t. record (closed t) { stage = Ended })
      ∷ record {
        holds = is_block_line;
        stands = λ t. is_in_world t.stage;
        put = λ t l. record t { block = t.block ++ as_line l };
      }
      ∷ [];
  entries = record_entries m;
}

-- a line behind the match
abbrev pub take_record_line : MatchData → Tail → List ℕ → Result Tail Cause
take_record_line m t l = take_by (record_table m) t l

-- behind the line that led here no line may come
abbrev pub is_record_last : Tail → Bool
is_record_last t = is_record_ended t.stage

-- the lines behind the match, as a machine
abbrev pub record_machine : MatchData → Machine Tail
record_machine m = machine_of (record_table m) is_record_last

-- no line was read yet
abbrev pub no_tail : Tail
no_tail = record {
  stage = Between;
  logs = [];
  worlds = [];
  events = [];
  left = 0;
  blocks = [];
  block = [];
}

-- the record of a match and of what was read behind it
abbrev pub record_with : MatchData × Tail → RaceRecord
record_with x = record { game = x.0; logs = x.1.logs; worlds = x.1.worlds }

-- what a text says
unfoldable pub read_record : List ℕ → Result RaceRecord Refused
read_record text =
    read_around LONGEST_RECORD_TEXT record_head record_machine no_tail text >>= λ x.
    Ok (record_with x)

-- the refusal is of the whole text for its length, or names the first faulty line and that line's
-- first failing check: lines are counted over the whole record
abbrev pub IsFirstOfRecord : List ℕ → TextFault → Type 0
IsFirstOfRecord text text_faults.NoMemory = Unit {0}
IsFirstOfRecord text (text_faults.Refused refused) =
    IsFirstOf LONGEST_RECORD_TEXT (around record_head record_machine no_tail) first_due text refused
