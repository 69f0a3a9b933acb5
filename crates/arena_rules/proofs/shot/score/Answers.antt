use Rattle.arena_rules.proofs.Hits.{scored-own, scored-other}
use Rattle.arena_rules.proofs.shot.score.Goals as goal

pub returns-then-owner-killed-clause-scored : goal.returns-then-owner-killed-clause-scored
returns-then-owner-killed-clause-scored c =
    let player = c.at-player.result in
    rw (c.put.ensures, c.with_loss.ensures, c.at-player.ensures player) (scored-own c.args.players.now c.args.owner c.args.killed player c.if-owner-killed.true c.requires)

pub returns-else-owner-killed-clause-scored : goal.returns-else-owner-killed-clause-scored
returns-else-owner-killed-clause-scored c =
    let player = c.at-player.result in
    rw (c.put-else-owner-killed.ensures, c.with_gain.ensures, c.at-player.ensures player) (scored-other c.args.players.now c.args.owner c.args.killed player c.if-owner-killed.false c.requires)
