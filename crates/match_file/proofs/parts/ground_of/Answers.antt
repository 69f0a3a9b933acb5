use Rattle.std.proofs.Common.{◌<◌, ◌∙◌}
use Rattle.std.proofs.lemmas.List.Elements.{All-from_recursion, All-get_or}
use Rattle.match_setup.specs.Ground.{open_grid}
use Rattle.match_file.specs.declared.cell.Cell.{Cell}
use Rattle.match_file.proofs.WallLaws.{walled_none, walled_width, walled_height, walled_next}
use Rattle.match_file.proofs.parts.ground_of.Goals as goal

pub loop-cell-init : goal.loop-cell-init
loop-cell-init c = c.new-ground.ensures.open ∙ walled_none (open_grid c.args.width c.args.height)

pub wall-requires-clause-column : goal.wall-requires-clause-column
wall-requires-clause-column c = rw (c.loop-cell.invariant, walled_width (open_grid c.args.width c.args.height))
    (All-get_or (λ (e : Cell). (e.x < c.args.width) × (e.y < c.args.height)) c.args.walls.now c.loop-cell.cell-index _
    c.loop-cell-test.true (All-from_recursion (λ (e : Cell). (e.x < c.args.width) × (e.y < c.args.height))
    c.args.walls.now c.requires.walls)).0

pub wall-requires-clause-row : goal.wall-requires-clause-row
wall-requires-clause-row c = rw (c.loop-cell.invariant, walled_height (open_grid c.args.width c.args.height))
    (All-get_or (λ (e : Cell). (e.x < c.args.width) × (e.y < c.args.height)) c.args.walls.now c.loop-cell.cell-index _
    c.loop-cell-test.true (All-from_recursion (λ (e : Cell). (e.x < c.args.width) × (e.y < c.args.height))
    c.args.walls.now c.requires.walls)).1

pub loop-cell-preserved : goal.loop-cell-preserved
loop-cell-preserved c = walled_next (open_grid c.args.width c.args.height) c.args.walls.now c.loop-cell.cell-index _ _ _ c.loop-cell-test.true c.loop-cell.invariant c.wall.ensures.walled
