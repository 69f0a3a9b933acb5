use Rattle.match_join.proofs.Way.{last-clock}
use Rattle.match_join.proofs.mirror.last_clock.Goals as goal

pub returns : goal.returns
returns g c = last-clock c.args.mirror.now.runs c.copies-last.result c.copy_clock.result c.copies-last.ensures c.copy_clock.ensures
