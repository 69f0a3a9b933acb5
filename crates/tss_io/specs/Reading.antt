-- What functions of the code answer, beside what reading gives.
use Rattle.std.specs.Prelude.{Err, Ok, Result, ℕ, ◌≡◌}
use Rattle.tss_io.specs.declared.cause.Cause.{Cause}
use Rattle.tss_io.specs.declared.fault.Refused.{Refused}
use Rattle.tss_io.specs.declared.fault.LineFault.{LineFault}
use Rattle.tss_io.specs.declared.fault.LineFault.TheVariants as line_faults
use Rattle.tss_io.specs.declared.fault.TextFault.{TextFault}
use Rattle.tss_io.specs.declared.fault.TextFault.TheVariants as text_faults

-- what a function returned, seen by view, is what reading gives
abbrev pub Answers : {X Y E : Type 0} → (X → Y) → Result X E → Result Y E → Type 0
Answers view (Ok x) read = read ≡ Ok (view x)
Answers view (Err e) read = read ≡ Err e

-- memory ran out, or reading gives this cause
abbrev pub FailsLine : {Y : Type 0} → LineFault → Result Y Cause → Type 0
FailsLine line_faults.NoMemory read = Unit {0}
FailsLine (line_faults.Refused cause) read = read ≡ Err cause

-- what a function returned, seen by view, is what reading gives, unless memory ran out
abbrev pub GivesLine : {X Y : Type 0} → (X → Y) → Result X LineFault → Result Y Cause → Type 0
GivesLine view (Ok x) read = read ≡ Ok (view x)
GivesLine view (Err e) read = FailsLine e read

-- the same of texts
abbrev pub Fails : {Y : Type 0} → TextFault → Result Y Refused → Type 0
Fails text_faults.NoMemory read = Unit {0}
Fails (text_faults.Refused refused) read = read ≡ Err refused

-- what a function returned, seen by view, is what reading gives, unless memory ran out
abbrev pub Gives : {X Y : Type 0} → (X → Y) → Result X TextFault → Result Y Refused → Type 0
Gives view (Ok x) read = read ≡ Ok (view x)
Gives view (Err e) read = Fails e read

-- a fault of this line
abbrev pub refused_at : ℕ → Cause → Refused
refused_at n cause = record { line = n; cause = cause }

-- the same of a text, whose line of this number it is
abbrev pub fault_at : ℕ → LineFault → TextFault
fault_at n line_faults.NoMemory = text_faults.NoMemory
fault_at n (line_faults.Refused cause) = text_faults.Refused (refused_at n cause)

-- the same of a line, whose number in its text this is
abbrev pub FailsAt : {Y : Type 0} → ℕ → LineFault → Result Y Refused → Type 0
FailsAt n line_faults.NoMemory read = Unit {0}
FailsAt n (line_faults.Refused cause) read = read ≡ Err (refused_at n cause)

-- what a function returned, seen by view, is what reading gives, with this number of its faulty
-- line, unless memory ran out
abbrev pub Placed : {X Y : Type 0} → (X → Y) → ℕ → Result X LineFault → Result Y Refused → Type 0
Placed view n (Ok x) read = read ≡ Ok (view x)
Placed view n (Err e) read = FailsAt n e read
