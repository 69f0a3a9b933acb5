-- The log of a mirror of a race, front by front.
use Rattle.std.proofs.Common.{◌≡◌, ℕ, zero, suc, ◌+◌, ◌<◌, List, [], ◌∷◌, ◌++◌, length, take, Some, ap, sym, ◌∙◌, subst}
use Rattle.std.specs.Prelude.{slice_get}
use Rattle.std.specs.List.{AllByRecursion}
use Rattle.std.proofs.Math.Seq.{take-append_seam}
use Rattle.game_trait.specs.declared.event.Event.{Event}
use Rattle.game_trait.specs.Count.{times}
use Rattle.game_trait.specs.Events.{is_arrival, is_restagger}
use Rattle.game_trait.specs.Game.{Rules}
use Rattle.sync_model.specs.State.{MirrorState}
use Rattle.sync_model.specs.Change.{after}
use Rattle.sync_model.specs.History.{opening_of}
use Rattle.sync_model.specs.Staggered.{IsStaggered}
use Rattle.sync_model.proofs.Legal.{legal-staggered}
use Rattle.sync_model.proofs.Staggered.{opening_staggered}
use Rattle.match_data.specs.Data.{MatchData, IsMatch}
use Rattle.match_hall.proofs.OnWay.{due-within}
use Rattle.race_hall.specs.Finish.{EndsAtFold}
use Rattle.race_hall.specs.Raced.{AreRaced, course_of}

all-got : {X : Type 0} (P : X → Type 0) (xs : List X) (i : ℕ) (x : X) → AllByRecursion P xs → slice_get xs i ≡ Some x → P x
all-got P [] i x all got = absurd cc
all-got P (y ∷ ys) zero x all got = let same : y ≡ x = cc in subst P same all.0
all-got P (y ∷ ys) (suc i) x all got = all-got P ys i x all.1 got

-- a mirror of a race ends at the time-ordered execution
pub raced-end :
    {W : Type 0} (rules : Rules W) (m : MatchData) (opening : W) (mirrors : List (MirrorState W)) (number : ℕ) (t : MirrorState W)
    → AreRaced rules m opening mirrors → slice_get mirrors number ≡ Some t → EndsAtFold rules (course_of m) opening t
raced-end rules m opening mirrors number t raced at = all-got (EndsAtFold rules (course_of m) opening) mirrors number t raced.each at

pub raced-front :
    {W : Type 0} (rules : Rules W) (m : MatchData) (opening : W) (mirrors : List (MirrorState W)) (number : ℕ) (t : MirrorState W) (front rest : List Event)
    → IsMatch m → AreRaced rules m opening mirrors → slice_get mirrors number ≡ Some t → t.history ≡ front ++ rest → IsStaggered (after (opening_of t) front)
raced-front {W} rules m opening mirrors number t front rest sound raced at whole =
    let end = raced-end rules m opening mirrors number t raced at in
    let due : AllByRecursion (λ x. x.time < t.length) m.commands = subst (λ (n : ℕ). AllByRecursion (λ x. x.time < n) m.commands) (sym end.same_length) (due-within m sound) in
    let begun = opening_staggered t.opening t.length t.plans (t.spare + times is_arrival t.history) (t.plan_spare + times is_restagger t.history) in
    let here : take (length front) t.history ≡ front = ap (λ (l : List Event). take (length front) l) whole ∙ take-append_seam front rest in
    subst (λ (l : List Event). IsStaggered (after (opening_of t) l)) here (legal-staggered m.commands (opening_of t) t.history due begun end.legal (length front))
