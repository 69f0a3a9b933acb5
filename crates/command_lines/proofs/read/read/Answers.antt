use Rattle.command_lines.proofs.CommandLaws.{fault_is}
use Rattle.command_lines.proofs.read.read.Goals as goal

pub fault_of-requires : goal.fault_of-requires
fault_of-requires c = fault_is c.args.version c.args.line.now c.in-Err.cause c.in-Err.ensures
