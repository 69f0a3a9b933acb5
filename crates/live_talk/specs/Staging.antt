-- A game whose mirrors are spoken to live.
use Rattle.std.specs.Prelude.{ℕ, List}
use Rattle.game_trait.specs.Game.{Rules}
use Rattle.match_setup.specs.Setup.{Layout}
use Rattle.report_text.specs.Worlds.{Showing}

-- its rules, the lines that show a world with the players' names, and the world as a match begins
pub record Staging (W : Type 0) : Type 0 where
  pub rules : Rules W
  pub lines : W → List (List ℕ) → List ℕ
  pub opening : Layout → W

abbrev pub staging : {W : Type 0} → Rules W → (W → List (List ℕ) → List ℕ) → (Layout → W)
    → Staging W
staging rules lines opening = record { rules = rules; lines = lines; opening = opening }

-- how its worlds are shown with these names
abbrev pub shown_by : {W : Type 0} → Staging W → List (List ℕ) → Showing W
shown_by g names = record { rules = g.rules; lines = g.lines; names = names }
