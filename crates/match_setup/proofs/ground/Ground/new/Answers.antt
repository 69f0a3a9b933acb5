use Rattle.match_setup.proofs.Walls.{IsGrid-open_grid, no_wall}
use Rattle.match_setup.proofs.ground.Ground.new.Goals as goal

pub invariant_of-result : goal.invariant_of-result
invariant_of-result c = IsGrid-open_grid _ _ c.requires.width.0 c.requires.width.1 c.requires.height.0 c.requires.height.1

pub returns-clause-sound : goal.returns-clause-sound
returns-clause-sound c = IsGrid-open_grid _ _ c.requires.width.0 c.requires.width.1 c.requires.height.0 c.requires.height.1

pub returns-clause-no_wall : goal.returns-clause-no_wall
returns-clause-no_wall c = λ x y. no_wall c.args.width c.args.height x y
