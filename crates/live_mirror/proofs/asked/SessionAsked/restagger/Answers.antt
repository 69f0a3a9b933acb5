use Rattle.std.proofs.Common.{◌-◌, ◌≤◌, length, arith}
use Rattle.live_mirror.proofs.asked.SessionAsked.restagger.Goals as goal

pub make-requires-clause-fits : goal.make-requires-clause-fits
make-requires-clause-fits g c = let f : c.args.plan ≤ length c.args.self.now.mirror.plans - 1 = c.requires.1 in omega (arith, f, c.always.ensures.plans)
