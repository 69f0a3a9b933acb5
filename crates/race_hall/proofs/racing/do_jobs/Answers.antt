use Rattle.std.proofs.Common.{ap}
use Rattle.race_hall.proofs.racing.do_jobs.Goals as goal

pub do_all-requires-clause-can : goal.do_all-requires-clause-can
do_all-requires-clause-can g c κs within = rw c.new-doer.ensures c.requires.can
