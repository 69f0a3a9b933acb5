use Rattle.mirror_c.proofs.Last.{last-clock}
use Rattle.mirror_c.proofs.engine.Engine.last_clock.Goals as goal

pub returns : goal.returns
returns c = last-clock c.args.self.now.mirror.runs c.copies.result c.copy_clock.result c.copies.ensures c.copy_clock.ensures
