-- What contracts see of the source and the sink in memory, and what stands after a call.
use Rattle.std.specs.Prelude.{ℕ, ◌-◌, List, ◌++◌, drop, length}
use Rattle.tss_io.specs.Streams.{next_count}

-- a source: the bytes that are left, how many a call gives at most, the numbers of the calls that
-- fail,
-- the number of the next call, and how many failed.
pub record Input : Type 0 where
  pub left : List ℕ
  pub piece : ℕ
  pub fails : List ℕ
  pub calls : ℕ
  pub faults : ℕ

-- the source after a call that gave n bytes.
abbrev pub after_read : Input → ℕ → Input
after_read s n = record s { left = drop n s.left; calls = next_count s.calls }

-- the source after a call that failed.
abbrev pub after_failed_read : Input → Input
after_failed_read s = record s { calls = next_count s.calls; faults = next_count s.faults }

-- a sink: the bytes that it took, how many it still has room for, how many a call takes at most,
-- the numbers of the calls that fail, the number of the next call, and how many failed.
pub record Output : Type 0 where
  pub taken : List ℕ
  pub room : ℕ
  pub piece : ℕ
  pub fails : List ℕ
  pub calls : ℕ
  pub faults : ℕ

-- the sink after a call that took these bytes.
abbrev pub after_put : Output → List ℕ → Output
after_put s bytes =
    record s { taken = s.taken ++ bytes; room = s.room - length bytes; calls = next_count s.calls }

-- the sink after a call that failed.
abbrev pub after_failed_put : Output → Output
after_failed_put s = record s { calls = next_count s.calls; faults = next_count s.faults }
