-- What follows a run: what is said of it on standard error.
use Rattle.std.specs.Prelude.{◌≡◌, ◌<◌, ◌==◌, ◌++◌, ℕ, List, Option, Some, None, codes, length, take, option_map, if◌then◌else◌}
use Rattle.tss_io.specs.Streams.{Rose, Gains}
use Rattle.tss_io.specs.Lines.{as_line}

-- what is seen of a sink: the bytes that were taken, where it tells them, and how many of its calls
-- failed
pub record Taken : Type 0 where
  pub bytes : Option (List ℕ)
  pub faults : ℕ

-- a sink, by what it shows
abbrev pub taken : {K : Type 0} → (K → Option (List ℕ)) → (K → ℕ) → K → Taken
taken bytes faults sink = record { bytes = bytes sink; faults = faults sink }

-- what failed at these statuses, in words
abbrev pub failure_at : ℕ → Option (List ℕ)
failure_at status =
    if status == 1 then Some (codes "out of memory")
    else if status == 3 then Some (codes "reading standard input failed")
    else if status == 4 then Some (codes "writing standard output failed")
    else None

-- the line of a program with this name that says so, where something failed
abbrev pub failure_line : List ℕ → ℕ → Option (List ℕ)
failure_line name status = option_map (λ words. as_line (name ++ words)) (failure_at status)

-- a line was put whole, or a put failed and a proper front of it was
pub data IsSaid (line : List ℕ) (old new : Taken) : Type 0 where
  whole : new.faults ≡ old.faults → Gains old.bytes line new.bytes → IsSaid line old new
  front : (n : ℕ) → n < length line → Rose old.faults new.faults
      → Gains old.bytes (take n line) new.bytes → IsSaid line old new

-- a line was said where there is one, and else nothing was put
abbrev pub Says : {K : Type 0} → (K → Taken) → Option (List ℕ) → K → K → Type 0
Says shown None old new = new ≡ old
Says shown (Some line) old new = IsSaid line (shown old) (shown new)
