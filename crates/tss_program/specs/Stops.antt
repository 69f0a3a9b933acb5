-- Why a run has no answer.
use Rattle.tss_io.specs.declared.faults.ReadFault.{ReadFault}
use Rattle.tss_io.specs.declared.faults.ReadFault.TheVariants as reads
use Rattle.tss_io.specs.declared.fault.TextFault.{TextFault}
use Rattle.tss_io.specs.declared.fault.TextFault.TheVariants as texts
use Rattle.tss_io.specs.declared.cause.Cause.TheVariants.{Long}
use Rattle.tss_io.specs.Reading.{refused_at}
use Rattle.tss_program.specs.declared.stop.Stop.{Stop}
use Rattle.tss_program.specs.declared.stop.Stop.TheVariants.{NoMemory, ReadFault as NotRead, Refused}

-- by a fault of reading; a text over the limit is refused as a whole
abbrev pub stop_of_read : ReadFault → Stop
stop_of_read reads.NoMemory = NoMemory
stop_of_read reads.Failed = NotRead
stop_of_read reads.TooLong = Refused (refused_at 0 Long)

-- by a fault of a text
abbrev pub stop_of_text : TextFault → Stop
stop_of_text texts.NoMemory = NoMemory
stop_of_text (texts.Refused refused) = Refused refused
