-- Want of memory, which has one value.
use Rattle.tss_base.specs.declared.no_memory.NoMemory.{NoMemory}

-- its value
abbrev pub no_memory : NoMemory
no_memory = record {}
