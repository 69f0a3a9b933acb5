use Rattle.lossy_text.proofs.TopLaws.{found, only, refused}
use Rattle.lossy_text.proofs.reading.read_lossy.Goals as goal

pub returns-clause-found : goal.returns-clause-found
returns-clause-found c = found c.args.text.now c.read_exactly.result c.read_exactly.ensures

pub returns-clause-only : goal.returns-clause-only
returns-clause-only c = only c.args.text.now c.read_exactly.result c.read_exactly.ensures

pub returns-clause-refused : goal.returns-clause-refused
returns-clause-refused c = refused c.args.text.now c.read_exactly.result c.read_exactly.ensures
