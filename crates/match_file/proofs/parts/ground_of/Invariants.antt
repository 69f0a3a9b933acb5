use Rattle.std.proofs.Common.{◌≡◌, take}
use Rattle.match_setup.specs.Ground.{open_grid}
use Rattle.match_file.specs.Reading.{walled}
use Rattle.match_file.proofs.parts.ground_of.Given as goal

abbrev pub invariant-loop-cell : goal.invariant-loop-cell
invariant-loop-cell l = l.ground ≡ walled (open_grid l.width l.height) (take l.cell-index l.walls)
