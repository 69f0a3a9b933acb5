-- What lifting a match keeps: all but its version, which nothing of a run reads.
use Rattle.std.proofs.Common.{◌≡◌, ℕ, zero, suc, ◌+◌, List, ◌∷◌, ◌++◌, map, refl, ap}
use Rattle.game_trait.specs.Game.{Rules}
use Rattle.game_trait.specs.Ordered.{time_ordered}
use Rattle.sync_model.specs.State.{MirrorState}
use Rattle.sync_model.specs.Turns.{drain}
use Rattle.match_data.specs.Data.{MatchData, lifted}
use Rattle.match_hall.specs.Script.{opening_mirror, opening_from, after_script, scripted, played}
use Rattle.report_text.specs.Worlds.{Showing}
use Rattle.match_hall.specs.Report.{script_text, drains_text, mirrors_text, play_text}
use Rattle.report_text.specs.Ends.{done_line}
use Rattle.tss_program.specs.Due.{order_text}

pub lifted-world :
    {W : Type 0} (rules : Rules W) (opening : W) (m : MatchData)
    → time_ordered rules opening (lifted m).commands (lifted m).length ≡ time_ordered rules opening m.commands m.length
lifted-world rules opening m = refl

pub lifted-order : {W : Type 0} (show : Showing W) (opening : W) (m : MatchData) → order_text show opening (lifted m) ≡ order_text show opening m
unfolding order_text
lifted-order show opening m = refl

opened : {W : Type 0} (opening : W) (m : MatchData) (i : ℕ) → opening_mirror opening (lifted m) i ≡ opening_mirror opening m i
unfolding opening_mirror
opened opening m i = refl

all-opened : {W : Type 0} (opening : W) (m : MatchData) (i n : ℕ) → opening_from opening (lifted m) i n ≡ opening_from opening m i n
unfolding opening_from
all-opened opening m i zero = refl
all-opened {W} opening m i (suc n) =
    λ at. opened opening m i at ∷ all-opened opening m (i + 1) n at

pub lifted-script : {W : Type 0} (opening : W) (m : MatchData) → scripted opening (lifted m) ≡ scripted opening m
lifted-script {W} opening m = ap (λ (ss : List (MirrorState W)). after_script m.commands ss m.script) (all-opened opening m 0 m.mirrors)

pub lifted-played : {W : Type 0} (opening : W) (m : MatchData) → played opening (lifted m) ≡ played opening m
lifted-played {W} opening m = ap (λ (ss : List (MirrorState W)). map (λ s. drain s) ss) (lifted-script opening m)

pub lifted-text : {W : Type 0} (show : Showing W) (opening : W) (m : MatchData) → play_text show opening (lifted m) ≡ play_text show opening m
unfolding play_text
lifted-text {W} show opening m =
    λ at. script_text show m.commands (all-opened opening m 0 m.mirrors at) m.script
    ++ (drains_text 0 (lifted-script opening m at) ++ (mirrors_text show 0 (lifted-played opening m at) ++ done_line))
