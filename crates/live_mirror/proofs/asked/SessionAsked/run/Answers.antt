use Rattle.std.proofs.Common.{◌-◌, ◌≤◌, length, ap, arith}
use Rattle.live_mirror.proofs.asked.SessionAsked.run.Goals as goal

pub push_run-requires : goal.push_run-requires
push_run-requires g c = let f : c.args.copy ≤ length c.args.self.now.mirror.runs - 1 = c.requires in omega (arith, f, c.always.ensures.copies, ap (λ s. length s.mirror.runs) c.self.view_is)
