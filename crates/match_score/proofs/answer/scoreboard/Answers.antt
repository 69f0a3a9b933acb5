use Rattle.std.proofs.Common.{ℕ, List, map, length, sym, ap, ◌∙◌, subst}
use Rattle.std.specs.List.{AllByRecursion}
use Rattle.std.proofs.lemmas.List.{length-map}
use Rattle.std.proofs.lemmas.Result.{IfOk-weaker}
use Rattle.arena_rules.specs.Player.{opening_player}
use Rattle.arena_rules.specs.World.{opening_world}
use Rattle.match_data.specs.Data.{MatchData, IsMatch}
use Rattle.report_text.specs.declared.score.ScoreRow.{ScoreRow}
use Rattle.report_text.specs.Score.{Standing, standing_of, standings_text, score_text}
use Rattle.report_text.proofs.Standings.{score_text-standings}
use Rattle.match_hall.specs.Few.{IsFew}
use Rattle.match_score.proofs.Watched.{names-ascii}
use Rattle.match_score.proofs.answer.scoreboard.Goals as goal

pub rows-requires-clause-few : goal.rows-requires-clause-few
rows-requires-clause-few c =
    let m = c.args.m.now in
    let opening = opening_world m.layout in
    let each = c.mirrors_take_no_more_than_a_script_brings.ensures m opening (subst IsMatch c.m.view_is c.m.invariant) in
    let players = ap (λ (n : MatchData). length n.layout.players) c.m.view_is in (
      opening,
      subst (AllByRecursion (IsFew opening)) (sym c.requires.mirrors) each,
      length-map m.layout.players opening_player ∙ sym players ∙ sym c.len.ensures.value,
    )

pub score_json-requires : goal.score_json-requires
score_json-requires c = names-ascii c.m.inside.roster c.m.invariant.names

pub returns : goal.returns
returns c =
    let m = c.args.m.now in
    let names = ap (λ (n : MatchData). n.names) c.m.view_is in
    let rows = ap (λ (rows : List ScoreRow). map standing_of rows) c.as_slice.ensures.value ∙ c.in_ok-rows.ensures in
    IfOk-weaker c.score_json.result _ _
    (λ text told. told ∙ (ap (λ (ns : List (List ℕ)). score_text ns c.as_slice.result.now) names
    ∙ (score_text-standings m.names c.as_slice.result.now ∙ ap (λ (ss : List Standing). standings_text m.names ss) rows)))
    c.score_json.ensures
