-- The answer to a match that is played to watchers.
use Rattle.std.specs.Prelude.{ℕ, ◌+◌, ℤ, List, [], ◌∷◌, ◌++◌, map, length}
use Rattle.game_trait.specs.Run.{world_of}
use Rattle.tss_io.specs.Lines.{as_line}
use Rattle.arena_rules.specs.World.{World, opening_world, arena_rules}
use Rattle.sync_model.specs.Lists.{last_of}
use Rattle.sync_model.specs.State.{MirrorState}
use Rattle.sync_model.specs.History.{repairs}
use Rattle.match_data.specs.Data.{MatchData}
use Rattle.report_text.specs.Ends.{done_line}
use Rattle.report_text.specs.Score.{Standing, standings_text}
use Rattle.watch_board.specs.Behaviour.{Behaviour}
use Rattle.watch_board.specs.Board.{board}
use Rattle.match_hall.specs.Script.{played}
use Rattle.match_hall.specs.Notes.{notes_of_all}

-- the players' scores in a world, in player order
abbrev pub scores_of : World → List ℤ
scores_of world = map (λ p. p.score) world.players

-- how the mirror of this number stands: its counts, and the scores in its last copy's world
abbrev pub standing : ℕ → MirrorState World → Standing
standing number s = record {
  mirror = number;
  accepted = length s.accepted;
  turned = length s.turned;
  repairs = repairs s;
  scores = scores_of (world_of arena_rules s.opening (last_of [] s.runs));
}

-- how mirrors stand, of which the first has this number
unfoldable pub standings : ℕ → List (MirrorState World) → List Standing
standings number [] = []
standings number (s ∷ ss) = standing number s ∷ standings (number + 1) ss

-- the scoreboard of mirrors of a match, as its line
abbrev pub scoreboard_line : MatchData → List (MirrorState World) → List ℕ
scoreboard_line m mirrors = as_line (standings_text m.names (standings 0 mirrors))

-- the mirrors of a match of the arena at the end
abbrev pub ends_of : MatchData → List (MirrorState World)
ends_of m = played (opening_world m.layout) m

-- the text of the answer to a match that is played to these watchers: the scoreboard, the watchers' lines of the
-- notes of the mirrors' logs, and the last line
unfoldable pub watched_text : List Behaviour → MatchData → List ℕ
watched_text watchers m =
    scoreboard_line m (ends_of m) ++ (board watchers (notes_of_all 0 (ends_of m)) ++ done_line)
