-- A mirror sees those lines of a script that name it.
use Rattle.std.proofs.Common.{◌≡◌, ℕ, zero, suc, true, false, cond, List, [], ◌∷◌, ◌++◌, take, drop, Option, Some, None, refl, sym, ap, ◌∙◌, arith}
use Rattle.std.specs.Prelude.{◌==◌, filter, slice_get, option_map}
use Rattle.std.proofs.lemmas.Bool.Decides.{nat_tests}
use Rattle.std.proofs.lemmas.List.{take-append-drop}
use Rattle.std.proofs.lemmas.Bool.{eqb-true}
use Rattle.game_trait.specs.declared.command.Command.{Command}
use Rattle.sync_model.specs.State.{MirrorState}
use Rattle.match_data.specs.declared.script_line.ScriptLine.{ScriptLine}
use Rattle.match_hall.specs.Script.{mirror_of, names, after_line, after_lines, changed_at, after_script}
use Rattle.match_hall.specs.Report.{Showing, script_text}
use Rattle.match_hall.proofs.Made.{script_text-append}

-- what is changed is found changed, and all else as it was
changed-same : {X : Type 0} (f : X → X) (i : ℕ) (xs : List X) → slice_get (changed_at f i xs) i ≡ option_map f (slice_get xs i)
unfolding changed_at
changed-same f i [] = refl
changed-same f zero (x ∷ xs) = refl
changed-same f (suc i) (x ∷ xs) = changed-same f i xs

changed-other : {X : Type 0} (f : X → X) (i j : ℕ) (xs : List X) → (i == j) ≡ false → slice_get (changed_at f i xs) j ≡ slice_get xs j
unfolding changed_at
changed-other f i j [] apart = refl
changed-other f zero zero (x ∷ xs) apart = absurd cc
changed-other f zero (suc j) (x ∷ xs) apart = refl
changed-other f (suc i) zero (x ∷ xs) apart = refl
changed-other f (suc i) (suc j) (x ∷ xs) apart = changed-other f i j xs (below i j apart)
  where
    below : (i j : ℕ) → (suc i == suc j) ≡ false → (i == j) ≡ false
    below i j e = grind (arith, nat_tests)

nothing-more : {X : Type 0} (o : Option X) → o ≡ option_map (λ x. x) o
nothing-more None = refl
nothing-more (Some x) = refl

one-more : {X : Type 0} (f g : X → X) (o : Option X) → option_map g (option_map f o) ≡ option_map (λ x. g (f x)) o
one-more f g None = refl
one-more f g (Some x) = refl

pub own-lines :
    {W : Type 0} (commands : List Command) (mirrors : List (MirrorState W)) (script : List ScriptLine) (number : ℕ)
    → slice_get (after_script commands mirrors script) number
    ≡ option_map (after_lines commands (filter (names number) script)) (slice_get mirrors number)
unfolding after_script after_lines
own-lines commands mirrors [] number = nothing-more (slice_get mirrors number)
own-lines {W} commands mirrors (l ∷ ls) number =
    let next = changed_at (after_line commands l) (mirror_of l) mirrors in
    own-lines commands next ls number
    ∙ elim (mirror_of l == number) as (λ v. (mirror_of l == number) ≡ v
    → option_map (after_lines commands (filter (names number) ls)) (slice_get next number)
    ≡ option_map (after_lines commands (cond v (l ∷ filter (names number) ls) (filter (names number) ls))) (slice_get mirrors number)) [
      | true ↦ λ e.
          let here : slice_get next number ≡ option_map (after_line commands l) (slice_get mirrors number) =
          ap (λ (n : ℕ). slice_get next n) (sym (eqb-true (mirror_of l) number e)) ∙ changed-same (after_line commands l) (mirror_of l) mirrors
          ∙ ap (λ (n : ℕ). option_map (after_line commands l) (slice_get mirrors n)) (eqb-true (mirror_of l) number e) in
          ap (λ (o : Option (MirrorState W)). option_map (after_lines commands (filter (names number) ls)) o) here
          ∙ one-more (after_line commands l) (after_lines commands (filter (names number) ls)) (slice_get mirrors number)
      | false ↦ λ e.
          ap (λ (o : Option (MirrorState W)). option_map (after_lines commands (filter (names number) ls)) o) (changed-other (after_line commands l) (mirror_of l) number mirrors e)
    ]
    refl

pub front-text :
    {W : Type 0} (show : Showing W) (commands : List Command) (mirrors : List (MirrorState W)) (script : List ScriptLine) (n : ℕ)
    → (rest : List ℕ) × (script_text show commands mirrors script ≡ script_text show commands mirrors (take n script) ++ rest)
front-text show commands mirrors script n =
    (_, ap (script_text show commands mirrors) (sym (take-append-drop n script)) ∙ script_text-append show commands mirrors (take n script) (drop n script))
