use Rattle.std.proofs.Common.{◌++◌, ◌∷◌, [], if◌then◌else◌, ap, ◌∙◌}
use Rattle.game_trait.specs.CommandList.{has_command}
use Rattle.match_maker.specs.Below.{each_below}
use Rattle.match_maker.specs.Generator.{lag}
use Rattle.match_maker.proofs.Drawing.{commands-more, rows-more}
use Rattle.match_maker.proofs.commands.draw_next.Goals as goal

pub returns-clause-commands : goal.returns-clause-commands
returns-clause-commands c =
    let before = c.args.commands.now.items in
    commands-more c.args.draws.now.seed c.args.place before _ c.requires.commands
    (c.in_ok-insert.ensures.items
    ∙ ap (λ x. if has_command before x.from x.number then before else before ++ x ∷ []) c.draw_command-command.ensures.command)

pub returns-clause-rows : goal.returns-clause-rows
returns-clause-rows c =
    rows-more (λ row. row.items) c.args.rows.now.items _ c.args.draws.now.seed c.args.place c.draw_row.result c.requires.rows
    (c.draw_row.ensures.lags
    ∙ ap (λ seed. each_below (lag seed c.args.place) 8) c.draw_command-command.ensures.seed)
    c.in_ok-push.ensures.items
