use Rattle.std.proofs.Common.{rules, ◌≡◌, ◌==◌, length, arith}
use Rattle.game_trait.proofs.Counts.{times-most}
use Rattle.paint_rules.proofs.cells.Cells.owned.Goals as goal

pub returns-clause-few : goal.returns-clause-few
returns-clause-few c =
    let cells : length c.self.inside.owners ≡ 4096 = search rules in
    let player = c.requires in
    let is = c.self.invariant.0 c.args.player (omega (arith, player)) in
    let most = times-most (λ o. o == c.args.player) c.self.inside.owners in
    omega (arith, cells, is, most)
