use Rattle.std.proofs.Common.{[], ◌∷◌, refl, lit≤}
use Rattle.match_setup.specs.Ground.{open_grid}
use Rattle.match_setup.specs.Worked.{on_ground, layout, lying, at, side_by_side}
use Rattle.match_setup.specs.declared.face.Face.TheVariants.{E}
use Rattle.match_setup.specs.declared.pickup.Kind.TheVariants.{Gold}
use Rattle.match_setup.proofs.Telling.{IsLayout-from_tests, IsGrid-yard, IsGrid-lane}
use Rattle.match_setup.proofs.Walls.{IsGrid-open_grid}
use Rattle.match_setup.proofs.Computing.{computing}
use Rattle.std.specs.List.{IsDistinct}
use Rattle.match_setup.proofs.possible.layouts.Goals as goal

pub returns : goal.returns
unfolding computing IsDistinct
returns c = record {
  small = IsLayout-from_tests (on_ground (open_grid 3 1)) (IsGrid-open_grid 3 1 (lit≤ tt) (lit≤ tt) (lit≤ tt) (lit≤ tt)) (lit≤ tt) (lit≤ tt) (lit≤ tt) refl refl;
  large = IsLayout-from_tests (on_ground (open_grid 64 64)) (IsGrid-open_grid 64 64 (lit≤ tt) (lit≤ tt) (lit≤ tt) (lit≤ tt)) (lit≤ tt) (lit≤ tt) (lit≤ tt) refl refl;
  walled = IsLayout-from_tests (layout (lying 5 2 Gold ∷ []) (at 7 2 E ∷ [])) IsGrid-yard (lit≤ tt) (lit≤ tt) (lit≤ tt) refl refl;
  full = IsLayout-from_tests (side_by_side 32 32) IsGrid-lane (lit≤ tt) (lit≤ tt) (lit≤ tt) refl refl;
}
