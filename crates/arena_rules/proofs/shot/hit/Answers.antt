use Rattle.std.proofs.Common.{◌∙◌, sym}
use Rattle.arena_rules.proofs.Hits.{hit-live, hit-dead}
use Rattle.arena_rules.proofs.shot.hit.Goals as goal

pub returns-then-not-is_live-clause-hit : goal.returns-then-not-is_live-clause-hit
returns-then-not-is_live-clause-hit c =
    let player = c.at.result in
    let dead = rw (c.struck-struck.ensures, c.at.ensures player) at (sym c.is_live.ensures ∙ c.if-not-is_live.true) in
    rw (c.score.ensures.scored, c.put.ensures, c.struck-struck.ensures, c.at.ensures player) (hit-dead c.args.players.now c.args.owner c.args.number player c.requires.there dead)

pub returns-else-not-is_live-clause-hit : goal.returns-else-not-is_live-clause-hit
returns-else-not-is_live-clause-hit c =
    let player = c.at.result in
    let live = rw (c.struck-struck.ensures, c.at.ensures player) at (sym c.is_live.ensures ∙ c.if-not-is_live.false) in
    rw (c.put.ensures, c.struck-struck.ensures, c.at.ensures player) (hit-live c.args.players.now c.args.owner c.args.number player c.requires.there live)
