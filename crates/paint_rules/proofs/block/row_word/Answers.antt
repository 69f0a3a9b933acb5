use Rattle.std.proofs.Common.{◌∙◌, ℕ, sym, ap, length, arith}
use Rattle.std.proofs.lemmas.List.FromFn.{length-map-range_with_len, map-range_with_len_more}
use Rattle.paint_rules.specs.Block.{cell_byte}
use Rattle.paint_rules.proofs.block.row_word.Goals as goal

pub push-requires : goal.push-requires
push-requires c =
    let count = ap length c.loop-x.invariant ∙ length-map-range_with_len (λ (x : ℕ). cell_byte c.args.ground.now c.args.cells.now x c.args.y) 0 c.loop-x.x in
    let sound = c.width-x-end.ensures.sound.width in
    let value = c.width-x-end.ensures.value in
    (omega arith, omega (arith, count, sound, value, c.loop-x-test.true))

pub loop-x-preserved : goal.loop-x-preserved
loop-x-preserved c =
    c.push.ensures.items ∙ rw (c.loop-x.invariant, c.cell_byte.ensures)
    (sym (map-range_with_len_more (λ (x : ℕ). cell_byte c.args.ground.now c.args.cells.now x c.args.y) 0 c.loop-x.x
    c.loop-x.x (omega arith)))
