use Rattle.tss_program.proofs.Lifting.{lifted-world, lifted-order, lifted-script, lifted-played, lifted-text}
use Rattle.tss_program.proofs.laws.lifting_keeps.Goals as goal

pub returns-clause-world : goal.returns-clause-world
returns-clause-world g c = lifted-world g.G.Game.rules

pub returns-clause-order : goal.returns-clause-order
returns-clause-order g c = lifted-order

pub returns-clause-script : goal.returns-clause-script
returns-clause-script g c = lifted-script

pub returns-clause-played : goal.returns-clause-played
returns-clause-played g c = lifted-played

pub returns-clause-text : goal.returns-clause-text
returns-clause-text g c = lifted-text
