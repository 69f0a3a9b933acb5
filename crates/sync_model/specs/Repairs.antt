-- What one event repairs, told without settling: how many copies, and the runs that they get.
use Rattle.std.specs.Prelude.{◌≡◌, ℕ, zero, suc, ◌-◌, ◌<◌, Bool, true, false, nat_lt, if◌then◌else◌, List, [], ◌∷◌, ◌++◌, drop, length, replicate, slice_index_or}
use Rattle.std.specs.List.{filter, list_any}
use Rattle.game_trait.specs.declared.command.Command.{Command}
use Rattle.game_trait.specs.declared.command.Item.{Item}
use Rattle.game_trait.specs.Run.{beats}
use Rattle.game_trait.specs.Count.{times}
use Rattle.sync_model.specs.Lists.{last_of}
use Rattle.sync_model.specs.Settle.{begins_with, rebuilt}
use Rattle.sync_model.specs.Change.{with_tick}

-- those that are marked are the first
abbrev pub AreFirst : List Bool → Type 0
AreFirst marks =
    let marked = times (λ b. b) marks in
    marks ≡ replicate marked true ++ replicate (length marks - marked) false

-- by a step: all copies ahead, where the run ahead doesn't begin with the copy's new run, and else
-- none
unfoldable pub repaired_by_step : List Command → List (List Item) → ℕ → ℕ
repaired_by_step accepted runs zero = 0
repaired_by_step accepted runs (suc c) =
    if begins_with (slice_index_or runs c []) (with_tick accepted (slice_index_or runs (suc c) []))
    then 0 else suc c

-- a command is late at a copy
abbrev pub is_late_at : Command → List Item → Bool
is_late_at x run = nat_lt x.time (beats run)

-- the clock of the last copy at which a command is late
abbrev pub last_late_clock : Command → List (List Item) → ℕ
last_late_clock x runs = beats (last_of [] (filter (is_late_at x) runs))

-- by an arrival that is late at some copy: the copies whose clock is greater than that of the last
-- copy at which it is late
abbrev pub repaired_by_arrival : Command → List (List Item) → ℕ
repaired_by_arrival x runs =
    if list_any (is_late_at x) runs
    then times (λ run. nat_lt (last_late_clock x runs) (beats run)) runs else 0

-- the first n runs rebuilt from a base, each up to its own clock, and the others as they are
unfoldable pub rebuild : List Command → List Item → ℕ → List (List Item) → List (List Item)
rebuild accepted base zero runs = runs
rebuild accepted base (suc n) [] = []
rebuild accepted base (suc n) (run ∷ behind) =
    rebuilt accepted run base ∷ rebuild accepted base n behind

-- copy m is the last at which a command is late
pub record IsLastLate (x : Command) (runs : List (List Item)) (m : ℕ) : Type 0 where
  pub there : m < length runs
  pub late : x.time < beats (slice_index_or runs m [])
  pub none_behind : list_any (is_late_at x) (drop (suc m) runs) ≡ false
