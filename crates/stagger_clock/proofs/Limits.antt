-- The last of a list, the longest delay, and the limit of a copy by cases.
use Rattle.std.proofs.Common.{◌≡◌, refl, ℕ, zero, suc, ◌-◌, ◌≤◌, ◌<◌, min, List, [], ◌∷◌, length, get_or, arith}
use Rattle.std.specs.List.{AllByRecursion}
use Rattle.game_trait.specs.declared.limits.TheConstants.{LONGEST_DELAY}
use Rattle.sync_model.specs.Lists.{last_of}
use Rattle.sync_model.specs.Schedule.{Schedule, IsSchedule, longest_delay, limit_at}
use Rattle.sync_model.proofs.Lists.{last_of-at}

-- what holds of each element holds of the last
last_of-all : {X : Type 0} (P : X → Type 0) (x : X) (xs : List X) → P x → AllByRecursion P xs → P (last_of x xs)
unfolding last_of
last_of-all P x [] here rest = here
last_of-all P x (y ∷ ys) here rest = last_of-all P y ys rest.0 rest.1

-- the longest delay is the last one, or 0 where there is none
pub longest_delay-last : (delays : List ℕ) → longest_delay delays ≡ get_or delays (length delays - 1) 0
unfolding last_of
longest_delay-last [] = refl
longest_delay-last (y ∷ ys) = let back : suc (length ys) - 1 ≡ length ys = omega arith in rw back (last_of-at y 0 ys)

-- it is at most the longest that a delay may be
pub longest_delay-short : (s : Schedule) → IsSchedule s → longest_delay s.delays ≤ LONGEST_DELAY
longest_delay-short s is = last_of-all (λ delay. delay ≤ LONGEST_DELAY) 0 s.delays (omega arith) is.short_delays

-- the limit of copy 0
pub limit_at-first : (s : Schedule) (copy clock ahead : ℕ) → copy ≡ 0 → limit_at s copy clock ahead ≡ min s.length (clock - get_or s.delays copy 0)
unfolding limit_at
limit_at-first s zero clock ahead first = refl
limit_at-first s (suc copy) clock ahead first = absurd (omega arith)

-- the limit of a copy behind another
pub limit_at-behind :
    (s : Schedule) (copy clock ahead : ℕ) → 0 < copy
    → limit_at s copy clock ahead ≡ min (min s.length (clock - get_or s.delays copy 0)) ahead
unfolding limit_at
limit_at-behind s zero clock ahead behind = absurd (omega arith)
limit_at-behind s (suc copy) clock ahead behind = refl

pub ruleset limits = (longest_delay-last, longest_delay-short, limit_at-first, limit_at-behind)
