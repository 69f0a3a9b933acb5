-- Why a command's line wasn't read.
use Rattle.std.specs.Prelude.{◌≡◌, Result, Ok, Err}
use Rattle.game_trait.specs.declared.command.Command.{Command}
use Rattle.tss_io.specs.declared.cause.Cause.{Cause}
use Rattle.tss_io.specs.declared.cause.Cause.TheVariants as causes
use Rattle.command_lines.specs.declared.read.CommandFault.{CommandFault}
use Rattle.command_lines.specs.declared.read.CommandFault.TheVariants as faults

-- the same as a text's cause
abbrev pub fault_cause : CommandFault → Cause
fault_cause faults.Shape = causes.Shape
fault_cause faults.Number = causes.Number

-- what a function returned is what reading gives
abbrev pub Reads : Result Command CommandFault → Result Command Cause → Type 0
Reads (Ok c) read = read ≡ Ok c
Reads (Err fault) read = read ≡ Err (fault_cause fault)
