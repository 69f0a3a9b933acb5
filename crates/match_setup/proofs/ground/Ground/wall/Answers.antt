use Rattle.std.proofs.Common.{◌≡◌, ◌<◌, ◌↔◌, ◌⊎◌, length, arith, refl, sym, ap, subst}
use Rattle.match_setup.specs.Ground.{Grid, with_wall, IsWalled}
use Rattle.match_setup.proofs.Walls.{IsGrid-with_wall, IsWalled-with_wall, shifted_one}
use Rattle.match_setup.proofs.ground.Ground.wall.Goals as goal

pub invariant_of-self : goal.invariant_of-self
unfolding with_wall
invariant_of-self c =
    let width : c.self.inside.width ≡ c.args.self.now.width = ap (λ grid. grid.width) c.self.view_is in
    let height : c.self.inside.height ≡ c.args.self.now.height = ap (λ grid. grid.height) c.self.view_is in
    let column : c.args.x < c.self.inside.width = omega (arith, width, c.requires.column) in
    let row : c.args.y < c.self.inside.height = omega (arith, height, c.requires.row) in
    let below : c.args.x < 64 = omega (arith, column, c.self.invariant.width.1) in
    rw (shifted_one c.args.x below) (IsGrid-with_wall _ _ _ c.self.invariant column row)

pub returns-clause-walled : goal.returns-clause-walled
unfolding with_wall
returns-clause-walled c =
    let width : c.self.inside.width ≡ c.args.self.now.width = ap (λ grid. grid.width) c.self.view_is in
    let below : c.args.x < 64 = omega (arith, width, c.requires.column, c.self.invariant.width.1) in
    rw (← c.self.view_is, shifted_one c.args.x below) refl

pub returns-clause-sound : goal.returns-clause-sound
returns-clause-sound c = invariant_of-self c

pub returns-clause-cells : goal.returns-clause-cells
returns-clause-cells c =
    let height : c.self.inside.height ≡ c.args.self.now.height = ap (λ (g : Grid). g.height) c.self.view_is in
    let rows : length c.self.inside.walls ≡ length c.args.self.now.walls = ap (λ (g : Grid). length g.walls) c.self.view_is in
    let within : c.args.y < length c.args.self.now.walls = omega (arith, height, rows, c.requires.row, c.self.invariant.rows, c.self.invariant.height.1) in
    λ a b. subst (λ (g : Grid). IsWalled g a b ↔ (IsWalled c.args.self.now a b ⊎ ((a ≡ c.args.x) × (b ≡ c.args.y))))
    (sym (returns-clause-walled c)) (IsWalled-with_wall c.args.self.now c.args.x c.args.y a b within)
