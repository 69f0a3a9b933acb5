-- A match that is played: its mirrors and its text, part by part.
use Rattle.std.proofs.Common.{◌≡◌, ◌≤◌, ℕ, zero, suc, List, [], ◌∷◌, length, refl, ap, ◌∙◌, arith}
use Rattle.game_trait.specs.declared.command.Command.{Command}
use Rattle.sync_model.specs.State.{MirrorState}
use Rattle.match_data.specs.Data.{MatchData, IsMatch}
use Rattle.match_data.specs.declared.script_line.ScriptLine.{ScriptLine}
use Rattle.match_hall.specs.Script.{changed_at, after_line, mirror_of, after_script, opening_mirrors}
use Rattle.match_hall.proofs.OnWay.{all-opening}

-- ---- how many mirrors there are

changed_at-count : {X : Type 0} (f : X → X) (i : ℕ) (xs : List X) → length (changed_at f i xs) ≡ length xs
unfolding changed_at
changed_at-count f i [] = refl
changed_at-count f zero (x ∷ xs) = refl
changed_at-count f (suc i) (x ∷ xs) = ap (λ (n : ℕ). suc n) (changed_at-count f i xs)

pub after_script-count : {W : Type 0} (commands : List Command) (ls : List ScriptLine) (mirrors : List (MirrorState W)) → length (after_script commands mirrors ls) ≡ length mirrors
unfolding after_script
after_script-count commands [] mirrors = refl
after_script-count commands (l ∷ ls) mirrors =
    after_script-count commands ls (changed_at (after_line commands l) (mirror_of l) mirrors) ∙ changed_at-count (after_line commands l) (mirror_of l) mirrors

pub opened-count : {W : Type 0} (opening : W) (m : MatchData) → length (opening_mirrors opening m) ≡ m.mirrors
opened-count opening m = (all-opening m opening).count

pub opened-few : {W : Type 0} (opening : W) (m : MatchData) → IsMatch m → length (opening_mirrors opening m) ≤ 8
opened-few opening m sound = (let count = (all-opening m opening).count in let few = sound.mirrors.1 in omega arith)
