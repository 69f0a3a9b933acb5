use Rattle.std.proofs.Common.{◌<◌, ◌≤◌, ◌-◌, ◌^◌, ℕ, ◌⊎◌, inl, inr, arith}
use Rattle.std.proofs.lemmas.Bool.{cases_lt}
use Rattle.tss_io.specs.Streams.{Rose, next_count}
use Rattle.tss_io.proofs.laws.counts_that_rose_are_greater.Goals as goal

greater : (old new : ℕ) → Rose old new → new < 2 ^ 64 - 1 → old < new
greater old new (inl more) below = more
greater old new (inr last) below = absurd (omega arith)

by-place : (old : ℕ) → (old < 2 ^ 64 - 1) ⊎ (2 ^ 64 - 1 ≤ old) → Rose old (next_count old)
by-place old (inl below) = inl (omega arith)
by-place old (inr at) = inr (omega arith)

pub returns : goal.returns
returns c = record { greater = greater; next = λ old. by-place old (cases_lt old (2 ^ 64 - 1)) }
