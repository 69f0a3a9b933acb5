use Rattle.command_lines.proofs.CommandLaws.{found, only, refused}
use Rattle.command_lines.proofs.read.read_command.Goals as goal

pub returns-clause-found : goal.returns-clause-found
returns-clause-found c = found c.args.version c.args.line.now c.read.result c.read.ensures

pub returns-clause-only : goal.returns-clause-only
returns-clause-only c = only c.args.version c.args.line.now c.read.result c.read.ensures

pub returns-clause-refused : goal.returns-clause-refused
returns-clause-refused c = refused c.args.version c.args.line.now c.read.result c.read.ensures
