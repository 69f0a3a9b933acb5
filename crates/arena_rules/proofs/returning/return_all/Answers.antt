use Rattle.std.proofs.Common.{sym}
use Rattle.arena_rules.proofs.Returns.{returns-live}
use Rattle.arena_rules.proofs.returning.return_all.Goals as goal

pub returns-then-are_live : goal.returns-then-are_live
returns-then-are_live c = sym (returns-live c.args.players.now (c.are_live.ensures c.if-are_live.true))
