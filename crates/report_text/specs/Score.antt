-- The scoreboard of a match in JSON: of each mirror how many commands it accepted, how many arrivals
-- it turned away, how many copies it repaired and the players' scores, and the players' names. The
-- members of an object stand in the order of their keys.
use Rattle.std.specs.Prelude.{ℕ, ℤ, List, map, codes}
use Rattle.serde_json.specs.Data.{Data, number, unsigned, string, array, object, member, no_members}
use Rattle.serde_json.specs.Find.{of_integer}
use Rattle.serde_json.specs.View.{items_of}
use Rattle.serde_json.specs.Written.{compact_text}
use Rattle.report_text.specs.declared.score.ScoreRow.{ScoreRow}

-- a count
abbrev pub count_data : ℕ → Data
count_data n = number (unsigned n)

-- a player's score
abbrev pub score_data : ℤ → Data
score_data score = number (of_integer score)

-- the scores of one mirror, in player order
abbrev pub scores_data : List ℤ → Data
scores_data scores = array (items_of (map score_data scores))

-- how one mirror stands: its number, how many commands it accepted and how many arrivals it turned
-- away, how many copies it repaired, and the players' scores
pub record Standing : Type 0 where
  pub mirror : ℕ
  pub accepted : ℕ
  pub turned : ℕ
  pub repairs : ℕ
  pub scores : List ℤ

-- the entry of one mirror
abbrev pub standing_data : Standing → Data
standing_data s = object (
    member (codes "accepted") (count_data s.accepted) (
    member (codes "mirror") (count_data s.mirror) (
    member (codes "repairs") (count_data s.repairs) (
    member (codes "scores") (scores_data s.scores) (
    member (codes "turned") (count_data s.turned) no_members)))))

-- how a mirror stands by its row
abbrev pub standing_of : ScoreRow → Standing
standing_of row = record {
  mirror = row.mirror;
  accepted = row.accepted;
  turned = row.turned;
  repairs = row.repairs;
  scores = row.scores.items;
}

-- what a row tells
abbrev pub row_data : ScoreRow → Data
row_data row = standing_data (standing_of row)

-- the entries of all mirrors
abbrev pub rows_data : List ScoreRow → Data
rows_data rows = array (items_of (map row_data rows))

-- the players' names
abbrev pub names_data : List (List ℕ) → Data
names_data names = array (items_of (map string names))

-- the scoreboard
abbrev pub scoreboard : List (List ℕ) → List ScoreRow → Data
scoreboard names rows = object (
    member (codes "mirrors") (rows_data rows) (
    member (codes "names") (names_data names) no_members))

-- its text, without a space
unfoldable pub score_text : List (List ℕ) → List ScoreRow → List ℕ
score_text names rows = compact_text (scoreboard names rows)

-- the text of the scoreboard of mirrors that stand so
unfoldable pub standings_text : List (List ℕ) → List Standing → List ℕ
standings_text names standings = compact_text (object (
    member (codes "mirrors") (array (items_of (map standing_data standings))) (
    member (codes "names") (names_data names) no_members)))
