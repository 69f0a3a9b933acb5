-- All copies of all mirrors that play the match of a number have one world.
use Rattle.std.proofs.Common.{◌≡◌, ℕ, zero, suc, ◌+◌, ◌<◌, List, [], ◌∷◌, length, Some, refl, sym, ap, subst, ◌∙◌, arith}
use Rattle.std.specs.Prelude.{slice_get}
use Rattle.std.specs.List.{AllByRecursion}
use Rattle.std.proofs.lemmas.List.{length-map}
use Rattle.game_trait.specs.declared.command.Command.{Command}
use Rattle.game_trait.specs.Game.{Rules}
use Rattle.game_trait.specs.Run.{world_of}
use Rattle.game_trait.specs.Ordered.{time_ordered}
use Rattle.game_trait.proofs.KeyOrder.{all-weaker}
use Rattle.sync_model.specs.State.{MirrorState}
use Rattle.sync_model.specs.Turns.{drain}
use Rattle.match_data.specs.declared.script_line.ScriptLine.{ScriptLine}
use Rattle.match_hall.specs.Script.{changed_at, after_line, mirror_of, after_script, opening_from, opening_mirrors, scripted, played}
use Rattle.match_maker.specs.Generator.{match_of_number}
use Rattle.soak.specs.Soak.{all_commands, IsSoaked}
use Rattle.soak.specs.Agree.{IsAllAt, AreAllAt}

length-changed : {X : Type 0} → (f : X → X) (i : ℕ) (xs : List X) → length (changed_at f i xs) ≡ length xs
unfolding changed_at
length-changed f i [] = refl
length-changed f zero (x ∷ xs) = refl
length-changed f (suc i) (x ∷ xs) = let more = length-changed f i xs in omega (arith, more)

length-script : {W : Type 0} (commands : List Command) (mirrors : List (MirrorState W)) (ls : List ScriptLine)
    → length (after_script commands mirrors ls) ≡ length mirrors
unfolding after_script
length-script commands mirrors [] = refl
length-script commands mirrors (l ∷ ls) =
    length-script commands (changed_at (after_line commands l) (mirror_of l) mirrors) ls
    ∙ length-changed (after_line commands l) (mirror_of l) mirrors

length-opening : {W : Type 0} (opening : W) (m : _) (first n : ℕ) → length (opening_from opening m first n) ≡ n
unfolding opening_from
length-opening opening m first zero = refl
length-opening opening m first (suc n) = let more = length-opening opening m (first + 1) n in omega (arith, more)

pub length-played : {W : Type 0} (opening : W) (seed : ℕ) → length (played opening (match_of_number seed)) ≡ 8
length-played {W} opening seed =
    length-map (scripted opening (match_of_number seed)) (λ (s : MirrorState W). drain s)
    ∙ (length-script (match_of_number seed).commands (opening_mirrors opening (match_of_number seed)) (match_of_number seed).script ∙ length-opening opening (match_of_number seed) 0 8)

-- what holds of each holds of the one in a place
pub all-got : {X : Type 0} (P : X → Type 0) (xs : List X) (i : ℕ) (x : X) → AllByRecursion P xs → slice_get xs i ≡ Some x → P x
all-got P [] i x all e = absurd cc
all-got {X} P (y ∷ xs) zero x all e = (let same : y ≡ x = cc in subst P same all.0)
all-got P (y ∷ xs) (suc i) x all e = all-got P xs i x all.1 e

-- what holds of the element at each place
pub all-gets : {X : Type 0} → (P : X → Type 0) (xs : List X) → ((i : ℕ) → i < length xs → (x : X) × (slice_get xs i ≡ Some x) × P x) → AllByRecursion P xs
all-gets P [] h = tt
all-gets P (x ∷ xs) h =
    let first = h zero (omega arith) in
    let same : x ≡ first.0 = (let e = first.1 in cc) in
    (subst P (sym same) first.2, all-gets P xs (λ i l. h (suc i) (omega (arith, l))))

-- a mirror's copies
soaked-at : {W : Type 0} (rules : Rules W) (opening : W) (seed : ℕ) (end : MirrorState W) → IsSoaked rules opening seed end
    → IsAllAt rules (time_ordered rules opening (all_commands seed) 512) end
soaked-at rules opening seed end h =
    all-weaker (λ run. world_of rules opening run ≡ time_ordered rules opening (all_commands seed) 512)
    (λ run. world_of rules end.opening run ≡ time_ordered rules opening (all_commands seed) 512) end.runs
    (λ run e. ap (λ o. world_of rules o run) h.opened ∙ e) h.worlds

pub all-agree : {W : Type 0} (rules : Rules W) (opening : W) (seed : ℕ)
    → ((number : ℕ) → number < 8
    → (end : MirrorState W) × (slice_get (played opening (match_of_number seed)) number ≡ Some end) × IsSoaked rules opening seed end)
    → AreAllAt rules (time_ordered rules opening (all_commands seed) 512) (played opening (match_of_number seed))
all-agree rules opening seed each =
    all-gets (IsAllAt rules (time_ordered rules opening (all_commands seed) 512)) (played opening (match_of_number seed))
    (λ i l. let one = each i (omega (arith, l, length-played opening seed)) in
    (one.0, one.1, soaked-at rules opening seed one.0 one.2))
