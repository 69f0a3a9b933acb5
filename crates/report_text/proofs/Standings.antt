-- The scoreboard by rows and by how mirrors stand.
use Rattle.std.proofs.Common.{◌≡◌, ℕ, List, [], ◌∷◌, map, codes, refl, ap}
use Rattle.serde_json.specs.Data.{array, object, member, no_members}
use Rattle.serde_json.specs.View.{items_of}
use Rattle.serde_json.specs.Written.{compact_text}
use Rattle.report_text.specs.declared.score.ScoreRow.{ScoreRow}
use Rattle.report_text.specs.Score.{row_data, standing_data, standing_of, names_data, score_text, standings_text}

row_by_row : (rows : List ScoreRow) → map row_data rows ≡ map standing_data (map standing_of rows)
row_by_row [] = refl
row_by_row (row ∷ rows) = ap (λ rest. row_data row ∷ rest) (row_by_row rows)

pub score_text-standings : (names : List (List ℕ)) (rows : List ScoreRow)
    → score_text names rows ≡ standings_text names (map standing_of rows)
unfolding score_text standings_text
score_text-standings names rows =
    ap (λ items. compact_text (object (
    member (codes "mirrors") (array (items_of items)) (member (codes "names") (names_data names) no_members))))
    (row_by_row rows)
