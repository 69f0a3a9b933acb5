use Rattle.std.proofs.Common.{◌≡◌, true, false, arith}
use Rattle.std.proofs.lemmas.Grind.{common_steps}
use Rattle.match_setup.specs.Ground.{is_open}
use Rattle.match_file.proofs.PrintLaws.{wall_none, wall_one, open_bare, shut_walled}
use Rattle.match_file.proofs.printing.push_wall.Goals as goal

pub returns-then-free : goal.returns-then-free
returns-then-free c =
    let open_cell : is_open c.args.ground.now c.args.x c.args.y ≡ true = grind (arith, common_steps) in
    wall_none c.args.ground.now c.args.x c.args.y _ (open_bare c.args.ground.now c.args.x c.args.y open_cell)

pub returns : goal.returns
returns c =
    let shut_cell : is_open c.args.ground.now c.args.x c.args.y ≡ false = grind (arith, common_steps) in
    wall_one c.args.ground.now c.args.x c.args.y _ _ (shut_walled c.args.ground.now c.args.x c.args.y c.requires.column c.requires.row shut_cell) c.in_ok-push_two.ensures
