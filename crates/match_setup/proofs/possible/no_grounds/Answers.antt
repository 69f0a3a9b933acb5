use Rattle.std.proofs.Common.{refl, arith}
use Rattle.match_setup.proofs.Computing.{computing}
use Rattle.std.specs.List.{IsDistinct}
use Rattle.match_setup.proofs.possible.no_grounds.Goals as goal

pub returns : goal.returns
unfolding computing IsDistinct
returns c = record {
  narrow = λ l. absurd (omega (arith, l.grid.width.0));
  wide = λ l. absurd (omega (arith, l.grid.width.1));
  flat = λ l. absurd (omega (arith, l.grid.height.0));
  high = λ l. absurd (omega (arith, l.grid.height.1));
  wall_outside = λ l. absurd (omega (arith, (l.grid.walls 12 1 refl).0));
}
