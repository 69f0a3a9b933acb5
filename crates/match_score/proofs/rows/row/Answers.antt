use Rattle.std.proofs.Common.{◌-◌, List, [], length, ap, ◌∙◌, arith}
use Rattle.game_trait.specs.declared.command.Command.{Command}
use Rattle.game_trait.specs.declared.command.Item.{Item}
use Rattle.game_trait.specs.Run.{world_of}
use Rattle.arena_rules.specs.World.{World, arena_rules}
use Rattle.sync_model.specs.declared.turned.Turned.{Turned}
use Rattle.match_score.specs.Score.{scores_of}
use Rattle.match_score.proofs.Players.{run-players}
use Rattle.match_score.proofs.RowByRow.{last-is}
use Rattle.match_score.proofs.rows.row.Goals as goal

pub scores-requires-clause-count : goal.scores-requires-clause-count
scores-requires-clause-count c =
    ap (λ (w : World). length w.players) c.world.ensures
    ∙ run-players _ c.args.mirror.now.opening
    ∙ ap (λ (w : World). length w.players) c.requires.few.1.opened
    ∙ c.requires.few.2

pub returns : goal.returns
returns c =
    let s = c.args.mirror.now in
    let some = c.requires.few.1.some_copy in
    let last = last-is [] s.runs (c.copies-last.result - 1) (omega (arith, some, c.copies-last.ensures)) in
    let scores = c.scores.ensures ∙ ap scores_of (c.world.ensures ∙ ap (λ (run : List Item). world_of arena_rules s.opening run) last) in
    let accepted = ap (λ (xs : List Command). length xs) c.accepted.ensures in
    let turned = ap (λ (xs : List Turned). length xs) c.turned.ensures in
    λ i. record { mirror = c.args.number; accepted = accepted i; turned = turned i; repairs = c.repairs.ensures i; scores = scores i }
