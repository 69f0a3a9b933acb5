use Rattle.std.proofs.Common.{sym}
use Rattle.arena_rules.proofs.Returns.{returned-stays}
use Rattle.arena_rules.proofs.returning.return_one.Goals as goal

pub returns-then-is_live_at-clause-returned : goal.returns-then-is_live_at-clause-returned
returns-then-is_live_at-clause-returned c d = sym (returned-stays c.args.players.now c.args.number d (c.is_live_at.ensures d c.if-is_live_at.true))
