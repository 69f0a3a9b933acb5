-- Which fault a reading met, and counts of faults that rise.
use Rattle.std.proofs.Common.{◌≡◌, ℕ, ◌≤◌, inl, inr, Result, Err, arith}
use Rattle.tss_io.specs.declared.faults.ReadFault.{ReadFault}
use Rattle.tss_io.specs.declared.faults.ReadFault.TheVariants.{Failed, TooLong, NoMemory}
use Rattle.tss_io.specs.Streams.{Rose}

-- a result that is this fault
abbrev fault : {A : Type 0} → ReadFault → Result A ReadFault
fault e = Err e

-- a fault that was passed on is the one that it was
pub same_fault : {A B : Type 0} (r : Result A ReadFault) (d e : ReadFault) → (x : ReadFault) × (r ≡ Err x) × (x ≡ d) → r ≡ Err e → fault {A = B} d ≡ fault e
same_fault r d e was other = cc (was.1, was.2, other)

-- a failed read isn't taken for too much text, and want of memory for neither of them
pub failed-not_too_long : {A P : Type 0} (r : Result A ReadFault) → (x : ReadFault) × (r ≡ Err x) × (x ≡ Failed) → r ≡ Err TooLong → P
failed-not_too_long r was other = absurd (cc (was.1, was.2, other))

pub no_memory-not_too_long : {A P : Type 0} (r : Result A ReadFault) → (x : ReadFault) × (r ≡ Err x) × (x ≡ NoMemory) → r ≡ Err TooLong → P
no_memory-not_too_long r was other = absurd (cc (was.1, was.2, other))

pub no_memory-not_failed : {A P : Type 0} (r : Result A ReadFault) → (x : ReadFault) × (r ≡ Err x) × (x ≡ NoMemory) → r ≡ Err Failed → P
no_memory-not_failed r was other = absurd (cc (was.1, was.2, other))

-- a count that rose from a later value rose from an earlier one
pub Rose-earlier : (a b c : ℕ) → a ≤ b → Rose b c → Rose a c
Rose-earlier a b c le (inl more) = inl (omega arith)
Rose-earlier a b c le (inr last) = inr last
