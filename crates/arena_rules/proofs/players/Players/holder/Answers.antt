use Rattle.std.proofs.Common.{sym}
use Rattle.match_setup.specs.Setup.{spot_cell}
use Rattle.arena_rules.proofs.Numbers.{holder-none}
use Rattle.arena_rules.proofs.players.Players.holder.Goals as goal

pub returns-then-not-is_numbered : goal.returns-then-not-is_numbered
returns-then-not-is_numbered c = sym (holder-none c.args.self.now (spot_cell c.args.spot) (c.is_numbered.ensures c.if-not-is_numbered.true))
