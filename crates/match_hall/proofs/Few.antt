-- A mirror takes in no more than its script brings.
use Rattle.std.proofs.Common.{◌≡◌, ℕ, suc, ◌+◌, ◌<◌, List, [], ◌∷◌, length, get_or, map, refl, ap, ◌∙◌, subst, arith}
use Rattle.std.specs.List.{AllByRecursion}
use Rattle.game_trait.specs.Count.{times}
use Rattle.game_trait.proofs.Counts.{times-most}
use Rattle.sync_model.specs.State.{MirrorState}
use Rattle.sync_model.specs.Change.{after}
use Rattle.sync_model.specs.Turns.{drain}
use Rattle.sync_model.proofs.Cases.{after-fixed}
use Rattle.sync_model.proofs.Drain.{draining_delivers_nothing, drain-fixed}
use Rattle.match_data.specs.Data.{MatchData, IsMatch}
use Rattle.match_hall.specs.Script.{arrives_at, opening_mirror, opening_mirrors, scripted, played}
use Rattle.mirror_report.proofs.Taken.{few-after}
use Rattle.match_hall.specs.Few.{IsFew}
use Rattle.match_hall.proofs.OnWay.{OnWay, way-copies, all-opening}
use Rattle.match_hall.proofs.Headline.{all-script}

opening-takes : {W : Type 0} (m : MatchData) (opening : W) (i : ℕ)
    → ((opening_mirror opening m i).opening ≡ opening) × ((opening_mirror opening m i).accepted ≡ []) × ((opening_mirror opening m i).turned ≡ [])
unfolding opening_mirror
opening-takes m opening i = (refl, refl, refl)

-- a mirror at the end of its script, drained
way-IsFew : {W : Type 0} (m : MatchData) (opening : W) (i : ℕ) (s : MirrorState W) → IsMatch m → OnWay m opening i [] s → IsFew opening (drain s)
unfolding times
way-IsFew {W} m opening i s sound way =
    let start = opening_mirror opening m i in
    let first = opening-takes m opening i in
    let few = few-after way.es start in
    let lines = times-most (arrives_at i) m.script in
    let most = sound.script_count in
    let brought = way.arrivals in
    let same = draining_delivers_nothing s in
    let fixed = drain-fixed s in
    let taken : length s.accepted ≡ length (after start way.es).accepted = ap (λ (t : MirrorState W). length t.accepted) way.reached in
    let away : length s.turned ≡ length (after start way.es).turned = ap (λ (t : MirrorState W). length t.turned) way.reached in
    let none : length start.accepted ≡ 0 = ap length first.1 in
    let none_away : length start.turned ≡ 0 = ap length first.2 in
    let taken_still : length (drain s).accepted ≡ length s.accepted = ap length same.accepted in
    let away_still : length (drain s).turned ≡ length s.turned = ap length same.turned in
    let copies = way-copies m opening i [] s way in
    let copies_still = fixed.copies in
    let some = sound.delays.some_copy in
    record {
      opened = fixed.opening ∙ ap (λ (t : MirrorState W). t.opening) way.reached ∙ (after-fixed way.es start).opening ∙ first.0;
      some_copy = omega (arith, copies, copies_still, some);
      accepted = omega (arith, few.0, lines, most, brought, taken, none, taken_still);
      turned = omega (arith, few.1, lines, most, brought, away, none_away, away_still);
    }

ways-few :
    {W : Type 0} (m : MatchData) (opening : W) (ss : List (MirrorState W)) (i : ℕ) → IsMatch m
    → ((j : ℕ) (d : MirrorState W) → j < length ss → OnWay m opening (i + j) [] (get_or ss j d))
    → AllByRecursion (IsFew opening) (map (λ s. drain s) ss)
ways-few m opening [] i sound ways = tt
ways-few {W} m opening (s ∷ ss) i sound ways = (
  way-IsFew m opening (i + 0) s sound (ways 0 s (omega arith)),
  ways-few m opening ss (i + 1) sound
      (λ j d below. (let same : i + suc j ≡ (i + 1) + j = omega arith in subst (λ (k : ℕ). OnWay m opening k [] (get_or ss j d)) same (ways (suc j) d (omega arith)))),
)

pub played-few_each : {W : Type 0} (m : MatchData) (opening : W) → IsMatch m → AllByRecursion (IsFew opening) (played opening m)
played-few_each {W} m opening sound =
    let all = all-script m opening m.script (opening_mirrors opening m) sound.script (all-opening m opening) in
    ways-few m opening (scripted opening m) 0 sound
    (λ j d below. (let same : j ≡ 0 + j = omega arith in subst (λ (k : ℕ). OnWay m opening k [] (get_or (scripted opening m) j d)) same (all.each j d below)))
