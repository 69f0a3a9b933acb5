-- The text of a match that is played, part by part.
use Rattle.std.proofs.Common.{◌≡◌, ℕ, List, [], ◌++◌, map, append_assoc}
use Rattle.sync_model.specs.State.{MirrorState}
use Rattle.sync_model.specs.Turns.{drain}
use Rattle.report_text.specs.Ends.{done_line}
use Rattle.match_data.specs.Data.{MatchData}
use Rattle.match_hall.specs.Script.{after_script, opening_mirrors, scripted, played}
use Rattle.report_text.specs.Worlds.{Showing}
use Rattle.match_hall.specs.Report.{script_text, drains_text, mirrors_text, play_text}

pub play-parts :
    {W : Type 0} (show : Showing W) (opening : W) (m : MatchData) (opened made drained : List (MirrorState W)) (none one two three all : List ℕ)
    → opened ≡ opening_mirrors opening m → made ≡ after_script m.commands opened m.script → drained ≡ map (λ s. drain s) made
    → none ≡ [] → one ≡ none ++ script_text show m.commands opened m.script → two ≡ one ++ drains_text 0 made → three ≡ two ++ mirrors_text show 0 drained → all ≡ three ++ done_line
    → all ≡ play_text show opening m
unfolding play_text
play-parts show opening m opened made drained none one two three all begun played end empty p q r s =
    rw (s, r, q, p, empty, end, played, begun)
    (regroup (script_text show m.commands (opening_mirrors opening m) m.script) (drains_text 0 (scripted opening m)) (mirrors_text show 0 (map (λ s. drain s) (scripted opening m))) done_line)
  where
    regroup : (a b c d : List ℕ) → ((a ++ b) ++ c) ++ d ≡ a ++ (b ++ (c ++ d))
    regroup a b c d = simp append_assoc
