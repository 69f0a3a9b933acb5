use Rattle.std.proofs.Common.{List, ◌∙◌, map, ap}
use Rattle.sync_model.specs.State.{MirrorState}
use Rattle.arena_rules.specs.World.{World}
use Rattle.report_text.specs.Score.{standings_text}
use Rattle.match_score.specs.Score.{standings}
use Rattle.match_score.proofs.Watched.{watched_by}
use Rattle.match_score.proofs.answer.score.Goals as goal

pub returns-clause-text : goal.returns-clause-text
returns-clause-text g c =
    let m = c.args.m.now in
    let board = ap (λ vec. map (λ w. (goal.Watcher-dyn g (w.vtable, w.value)).behaviour w.value) vec.items) c.over-board.ensures in
    let scores = c.in_ok-scores.ensures ∙ ap (λ (ss : List (MirrorState World)). standings_text m.names (standings 0 ss)) c.in_ok-hall.ensures.mirrors in
    watched_by _ _ _ m c.in_ok-scores.scores.items _ _ _ _ _ board c.new-lines.ensures.items scores c.as_slice.ensures.value c.as_slice-2.ensures.value
    c.in_ok-hall.ensures.told c.in_ok-text.ensures
