use Rattle.std.proofs.Common.{◌<◌, ◌+◌, ℕ, ℤ, [], ◌∷◌, ◌++◌, w32, SFits, rules, length, ap, ◌∙◌, arith}
use Rattle.std.proofs.lemmas.Int.{to_z-of_z}
use Rattle.match_score.proofs.RowByRow.{map-next}
use Rattle.match_score.proofs.rows.scores.Goals as goal

pub loop-player-preserved : goal.loop-player-preserved
loop-player-preserved c =
    let below : c.loop-player.player < length c.args.world.now.players = omega (arith, c.requires.count, c.loop-player-test.true) in
    let fits : SFits w32 c.score.result = search rules in
    record {
      count = c.push.ensures.len ∙ ap (λ (n : ℕ). n + 1) c.loop-player.invariant.count;
      items = map-next (λ p. p.score) c.args.world.now.players c.loop-player.player _ _ _ below c.score.ensures c.loop-player.invariant.items
          (c.push.ensures.items ∙ ap (λ (z : ℤ). c.loop-player.scores.items ++ z ∷ []) (to_z-of_z w32 c.score.result fits));
    }
