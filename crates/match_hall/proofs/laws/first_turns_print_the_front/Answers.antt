use Rattle.std.proofs.Common.{◌≡◌, ℕ, ◌+◌, ◌<◌, List, [], ◌∷◌, ◌++◌, length, arith}
use Rattle.sync_model.specs.State.{MirrorState}
use Rattle.match_hall.specs.Report.{drains_text}
use Rattle.match_hall.specs.Stops.{IsStoppedDraining}
use Rattle.mirror_report.proofs.Draining.{fewer-turns}
use Rattle.match_hall.proofs.StoppedDrain.{draining-front}
use Rattle.match_hall.proofs.laws.first_turns_print_the_front.Goals as goal

stopped : {W : Type 0} (old new : List (MirrorState W)) (before now : List ℕ) → IsStoppedDraining old new before now
    → (gained : List ℕ) × (rest : List ℕ) × (now ≡ before ++ gained) × (drains_text 0 old ≡ gained ++ rest)
stopped {W} [] new before now h = (let there : h.number < length {A = MirrorState W} [] = h.there in absurd (omega arith))
stopped (s ∷ ss) new before now h = (let front = draining-front (s ∷ ss) new before now s h in (front.gained, front.rest, front.put, front.whole))

pub returns : goal.returns
returns g c = record {
  turns = λ number n k s. fewer-turns number n (n + k) s (omega arith);
  stopped = λ old new before now h. stopped old new before now h;
}
