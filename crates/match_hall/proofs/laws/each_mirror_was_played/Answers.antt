use Rattle.std.proofs.Common.{◌≡◌, ℕ, zero, suc, ◌+◌, List, [], ◌∷◌, length, Some, refl, sym, ◌∙◌, subst, arith}
use Rattle.std.specs.Prelude.{slice_get}
use Rattle.game_trait.specs.Game.{Rules}
use Rattle.match_data.specs.Data.{MatchData}
use Rattle.match_data.specs.declared.log.MirrorLog.{MirrorLog}
use Rattle.sync_model.specs.State.{MirrorState}
use Rattle.match_hall.specs.Script.{opening_mirror, played, logs_from}
use Rattle.match_hall.proofs.Headline.{played-many, played-AllPlayed}
use Rattle.match_hall.specs.Headline.{IsPlayed, AllPlayed}
use Rattle.match_hall.proofs.laws.each_mirror_was_played.Goals as goal

count : {W : Type 0} (rules : Rules W) (opening : W) (m : MatchData) (number : ℕ) (ends : List (MirrorState W))
    (logs : List MirrorLog) → AllPlayed rules opening m number ends logs → length logs ≡ length ends
unfolding AllPlayed
count rules opening m number [] [] all = refl
count rules opening m number [] (log ∷ logs) all = absurd all
count rules opening m number (end ∷ ends) [] all = absurd all
count rules opening m number (end ∷ ends) (log ∷ logs) all = omega (arith, count rules opening m (number + 1) ends logs all.2)

abbrev IsThere : {W : Type 0} → Rules W → W → MatchData → MirrorState W → MirrorLog → ℕ → Type 0
IsThere rules opening m end log number = (log.mirror ≡ number) × IsPlayed rules m (opening_mirror opening m number) end log.events

each : {W : Type 0} (rules : Rules W) (opening : W) (m : MatchData) (number place : ℕ) (ends : List (MirrorState W)) (logs : List MirrorLog) (end : MirrorState W) (log : MirrorLog)
    → AllPlayed rules opening m number ends logs → slice_get ends place ≡ Some end → slice_get logs place ≡ Some log → IsThere rules opening m end log (number + place)
unfolding AllPlayed
each rules opening m number place [] logs end log all at there = absurd cc
each rules opening m number place (e ∷ ends) [] end log all at there = absurd all
each {W} rules opening m number zero (e ∷ ends) (l ∷ logs) end log all at there =
    let same : e ≡ end = cc in
    let named : l ≡ log = cc in
    let here : number + 0 ≡ number = omega arith in
    subst (IsThere rules opening m end log) (sym here)
    (subst (λ (x : MirrorState W). IsThere rules opening m x log number) same
    (subst (λ (x : MirrorLog). IsThere rules opening m e x number) named (all.0, all.1)))
each rules opening m number (suc place) (e ∷ ends) (l ∷ logs) end log all at there =
    let next : (number + 1) + place ≡ number + suc place = omega arith in
    subst (IsThere rules opening m end log) next (each rules opening m (number + 1) place ends logs end log all.2 at there)

pub returns : goal.returns
returns g c = record {
  mirrors = λ m opening sound.
      (let many = played-many m opening sound in
      (many, count g.G.Game.rules opening m 0 (played opening m) (logs_from 0 (played opening m)) (played-AllPlayed g.G.Game.rules m opening sound) ∙ many));
  count = λ m opening number ends logs all. count g.G.Game.rules opening m number ends logs all;
  each = λ m opening number place ends logs end log all at there. each g.G.Game.rules opening m number place ends logs end log all at there;
}
