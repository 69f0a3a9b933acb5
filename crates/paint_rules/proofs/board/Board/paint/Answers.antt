use Rattle.std.proofs.Common.{◌≡◌, true, not, arith}
use Rattle.std.proofs.lemmas.Bool.{or_parts, not-false}
use Rattle.std.proofs.lemmas.Grind.{common_steps}
use Rattle.match_setup.specs.Ground.{is_open}
use Rattle.paint_rules.proofs.Marks.{clean-painted}
use Rattle.paint_rules.proofs.board.Board.paint.Goals as goal

pub invariant_of-self : goal.invariant_of-self
invariant_of-self c = record {
  near = c.self.invariant.near;
  marked = c.self.invariant.marked;
  clean = λ none.
      let parts = or_parts c.self.inside.may_be_owned (not c.free.result) none in
      let free : c.free.result ≡ true = not-false c.free.result parts.1 in
      let open_cell : is_open c.self.inside.marks c.args.x c.args.y ≡ true = grind (arith, common_steps, free) in
      rw c.paint.ensures (clean-painted c.self.inside.marks c.self.inside.pickups.items c.self.inside.cells c.args.x
      c.args.y c.args.owner c.requires.column c.self.invariant.near c.self.invariant.marked open_cell
      (c.self.invariant.clean parts.0));
}
