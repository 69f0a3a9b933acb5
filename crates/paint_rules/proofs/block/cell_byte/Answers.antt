use Rattle.std.proofs.Common.{◌≡◌, ◌∙◌, true, false, sym, ap, arith}
use Rattle.std.proofs.lemmas.Grind.{common_steps}
use Rattle.match_setup.specs.Ground.{is_open}
use Rattle.paint_rules.specs.Block.{owner_byte}
use Rattle.paint_rules.proofs.Lines.{cell_byte-inside}
use Rattle.paint_rules.proofs.block.cell_byte.Goals as goal

pub returns-then-free : goal.returns-then-free
returns-then-free c =
    let open_cell : is_open c.args.ground.now c.args.x c.args.y ≡ true = grind (arith, common_steps) in
    c.owner_byte.ensures ∙ ap owner_byte c.owner.ensures.owner
    ∙ sym (cell_byte-inside c.args.ground.now c.args.cells.now c.args.x c.args.y true c.requires.column c.requires.row (sym open_cell))

pub returns-else-free : goal.returns-else-free
returns-else-free c =
    let shut_cell : is_open c.args.ground.now c.args.x c.args.y ≡ false = grind (arith, common_steps) in
    sym (cell_byte-inside c.args.ground.now c.args.cells.now c.args.x c.args.y false c.requires.column c.requires.row (sym shut_cell))
