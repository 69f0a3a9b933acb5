-- Each match can be raced: mirrors whose workers did nothing end where a race ends.
use Rattle.std.proofs.Common.{◌≡◌, ℕ, zero, suc, ◌+◌, ◌≤◌, List, [], map, length, refl, ap, arith}
use Rattle.std.specs.List.{AllByRecursion}
use Rattle.game_trait.specs.Game.{Rules}
use Rattle.sync_model.specs.State.{MirrorState}
use Rattle.match_data.specs.Data.{MatchData, IsMatch}
use Rattle.race_hall.specs.Race.{Course, IsCourse, count_from, race_opening}
use Rattle.race_hall.specs.Finish.{to_deliver, finished, EndsAtFold}
use Rattle.race_hall.specs.Raced.{course_of, AreRaced}
use Rattle.race_hall.proofs.Fold.{raced-ends}
use Rattle.race_hall.proofs.Worked.{raced-nothing}
use Rattle.race_hall.proofs.FeederJobs.{match-course}

module _ {W : Type 0} (rules : Rules W) (c : Course) (opening : W) where
  -- a mirror to which everything is delivered at the finish
  idle-end : ℕ → MirrorState W
  idle-end k = finished (race_opening c opening (length c.commands)) (to_deliver c k (λ j. 0) (λ j. []))

  idle-ends : IsCourse c → (i n : ℕ) → i + n ≤ c.mirrors → AllByRecursion (EndsAtFold rules c opening) (map idle-end (count_from i n))
  unfolding count_from idle-end
  idle-ends fit i zero below = tt
  idle-ends fit i (suc n) below = (
    raced-ends rules c opening (length c.commands) i (λ k. 0) (λ k. []) (λ k. []) 0 [] (race_opening c opening (length c.commands)) fit (omega arith) (omega arith) (raced-nothing c opening (length c.commands) i),
    idle-ends fit (i + 1) n (omega arith),
  )

  idle-count : (i n : ℕ) → length (map idle-end (count_from i n)) ≡ n
  unfolding count_from
  idle-count i zero = refl
  idle-count i (suc n) = ap suc (idle-count (i + 1) n)

pub some_raced : {W : Type 0} (rules : Rules W) (m : MatchData) (opening : W) → IsMatch m → (mirrors : List (MirrorState W)) × AreRaced rules m opening mirrors
some_raced rules m opening is = (
  map (idle-end rules (course_of m) opening) (count_from 0 m.mirrors),
  record {
    count = idle-count rules (course_of m) opening 0 m.mirrors;
    each = idle-ends rules (course_of m) opening (match-course m is) 0 m.mirrors (omega arith);
  },
)
