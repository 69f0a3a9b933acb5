-- The answer to the number of a match, once that is played.
use Rattle.std.specs.Prelude.{◌≡◌, ◌↔◌, ℕ, ◌+◌, Bool, true, IsTrue, List, [], ◌∷◌, ◌++◌}
use Rattle.game_trait.specs.Game.{Rules}
use Rattle.game_trait.specs.Ordered.{time_ordered}
use Rattle.arena_rules.specs.World.{World, opening_world, arena_rules}
use Rattle.sync_model.specs.State.{MirrorState}
use Rattle.report_text.specs.Ends.{done_line}
use Rattle.report_text.specs.Mirrors.{mirror_line}
use Rattle.report_text.specs.Soak.{soak_line, same_line}
use Rattle.match_hall.specs.Script.{played}
use Rattle.match_hall.specs.Report.{lines_of_mirrors}
use Rattle.match_maker.specs.Generator.{the_layout, match_of_number}
use Rattle.soak.specs.Soak.{all_commands}
use Rattle.soak.specs.Agree.{AreAllAt}

-- how its world opens, and its mirrors at the end
abbrev pub soak_opening : World
soak_opening = opening_world the_layout

abbrev pub soaked : ℕ → List (MirrorState World)
soaked seed = played soak_opening (match_of_number seed)

-- the time-ordered execution of all its commands
abbrev pub soak_world : ℕ → World
soak_world seed = time_ordered arena_rules soak_opening (all_commands seed) 512

-- whether all copies have a world was told of mirrors
pub record TellsAgreement {W : Type 0} (rules : Rules W) (world : W)
    (mirrors : List (MirrorState W)) (before after : List ℕ) : Type 0 where
  pub same : Bool
  pub decided : IsTrue same ↔ AreAllAt rules world mirrors
  pub line : after ≡ before ++ same_line same

-- the text of a number and of mirrors that says of their copies that they agree, or that they don't
unfoldable pub agreement_text : {W : Type 0} → ℕ → List (MirrorState W) → Bool → List ℕ
agreement_text number mirrors same =
    soak_line number 4096 ++ (lines_of_mirrors 0 mirrors ++ (same_line same ++ done_line))

-- a text says of mirrors that their copies have a world where they do, and that they don't where
-- they don't
pub record TellsOf {W : Type 0} (rules : Rules W) (world : W) (number : ℕ)
    (mirrors : List (MirrorState W)) (text : List ℕ) : Type 0 where
  pub same : Bool
  pub decided : IsTrue same ↔ AreAllAt rules world mirrors
  pub lines : text ≡ agreement_text number mirrors same

-- the text of the match of a number
abbrev pub IsSoakText : ℕ → List ℕ → Type 0
IsSoakText seed text = TellsOf arena_rules (soak_world seed) seed (soaked seed) text

-- the same text by what is known of every number: the copies agree
unfoldable pub soak_text : ℕ → List ℕ
soak_text seed = agreement_text seed (soaked seed) true

-- the lines of mirrors that accepted every command and turned none away, by how many copies each
-- repaired; the first has this number
unfoldable pub whole_lines : ℕ → List ℕ → List ℕ
whole_lines number [] = []
whole_lines number (repairs ∷ more) =
    mirror_line number 4096 0 repairs ++ whole_lines (number + 1) more
