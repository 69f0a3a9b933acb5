-- The schedule of a mirror: a plan of delays and the match's length. How far each copy may go, and
-- where the clock ends.
use Rattle.std.specs.Prelude.{ℕ, zero, suc, ◌+◌, ◌-◌, ◌≤◌, ◌<◌, Bool, nat_le, min, List, [], ◌∷◌, map, length, slice_index_or}
use Rattle.std.specs.List.{AllByRecursion}
use Rattle.game_trait.specs.declared.limits.TheConstants.{LONGEST_MATCH, MOST_COPIES, LONGEST_DELAY}
use Rattle.sync_model.specs.Lists.{last_of}

-- the delays of a mirror's copies in ticks, from copy 0 on, and the match's length in ticks
pub record Schedule : Type 0 where
  pub delays : List ℕ
  pub length : ℕ

-- the delays rise from each copy to the next
unfoldable pub DelaysRise : List ℕ → Type 0
DelaysRise [] = Unit {0}
DelaysRise (delay ∷ behind) = AllByRecursion (λ longer. delay < longer) behind × DelaysRise behind

-- 1 to 8 rising delays, each at most 1,024, and a length of 1 to 8,192
pub record IsSchedule (s : Schedule) : Type 0 where
  pub some_copy : 0 < length s.delays
  pub few_copies : length s.delays ≤ MOST_COPIES
  pub delays_rise : DelaysRise s.delays
  pub short_delays : AllByRecursion (λ delay. delay ≤ LONGEST_DELAY) s.delays
  pub some_tick : 0 < s.length
  pub few_ticks : s.length ≤ LONGEST_MATCH

-- the longest delay of a plan, which is the last copy's
abbrev pub longest_delay : List ℕ → ℕ
longest_delay delays = last_of 0 delays

-- how far a copy may go at a clock: to the match's end, to its delay behind the clock, and never
-- past the copy ahead
unfoldable pub limit_at : Schedule → ℕ → ℕ → ℕ → ℕ
limit_at s zero clock ahead = min s.length (clock - slice_index_or s.delays zero 0)
limit_at s (suc copy) clock ahead =
    min (min s.length (clock - slice_index_or s.delays (suc copy) 0)) ahead

-- where a clock ends: the match's length plus the longest delay
abbrev pub clock_end : Schedule → ℕ
clock_end s = s.length + longest_delay s.delays

-- a clock stands at its end, or past it
abbrev pub is_at_end : Schedule → ℕ → Bool
is_at_end s clock = nat_le (clock_end s) clock

-- ---- the schedules of plans that share one length

-- the delays of each
abbrev pub delays_of_each : List Schedule → List (List ℕ)
delays_of_each plans = map (λ plan. plan.delays) plans

-- the ticks of the first plan
abbrev pub ticks_of_first : List Schedule → ℕ
ticks_of_first [] = 0
ticks_of_first (plan ∷ plans) = plan.length

-- the copies of the first plan
abbrev pub copies_of_first : List Schedule → ℕ
copies_of_first [] = 0
copies_of_first (plan ∷ plans) = length plan.delays
