use Rattle.std.proofs.Common.{sym, ◌∙◌}
use Rattle.match_hall.proofs.Named.{named-missing}
use Rattle.match_hall.proofs.events.command_of.Goals as goal

pub unreachable-requires : goal.unreachable-requires
unreachable-requires c = named-missing _ c.args.from c.args.number c.requires (sym c.find_command.ensures ∙ c.in-None.is)
