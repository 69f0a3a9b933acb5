-- The mirrors of a match as it begins.
use Rattle.std.proofs.Common.{◌≡◌, ℕ, zero, suc, ◌+◌, ◌-◌, ◌<◌, ◌≤◌, List, [], ◌∷◌, ◌++◌, append_assoc, arith}
use Rattle.std.proofs.lemmas.List.{append-nil}
use Rattle.game_trait.specs.Count.{times}
use Rattle.sync_model.specs.Schedule.{Schedule, delays_of_each, ticks_of_first}
use Rattle.sync_model.specs.State.{MirrorState, opening_state}
use Rattle.match_data.specs.Data.{MatchData}
use Rattle.match_hall.specs.Script.{arrives_at, restaggers_at, schedules, opening_mirror, opening_from}
use Rattle.match_data.proofs.Plans.{delays-of_schedules}

-- one mirror more
pub opened-more :
    {W : Type 0} (opening : W) (m : MatchData) (i : ℕ) (plans : List Schedule) (room changes : ℕ) (s : MirrorState W) (old new : List (MirrorState W)) → i < m.mirrors
    → plans ≡ schedules m → room ≡ times (arrives_at i) m.script → changes ≡ times (restaggers_at i) m.script
    → s ≡ opening_state opening (ticks_of_first plans) (delays_of_each plans) room changes → new ≡ old ++ s ∷ []
    → new ++ opening_from opening m (i + 1) (m.mirrors - (i + 1)) ≡ old ++ opening_from opening m i (m.mirrors - i)
unfolding opening_from opening_mirror
opened-more opening m i plans room changes s old new below is counted changed made put =
    let n : m.mirrors - i ≡ suc (m.mirrors - (i + 1)) = omega arith in
    rw (put, made, is, delays-of_schedules m, counted, changed, n)
    (append_assoc old (opening_mirror opening m i ∷ []) (opening_from opening m (i + 1) (m.mirrors - (i + 1))))

pub opened-all : {W : Type 0} (opening : W) (m : MatchData) (i : ℕ) (mirrors : List (MirrorState W)) → m.mirrors ≤ i
    → mirrors ++ opening_from opening m i (m.mirrors - i) ≡ mirrors
unfolding opening_from
opened-all opening m i mirrors past = (let n : m.mirrors - i ≡ zero = omega arith in rw n (append-nil mirrors))
