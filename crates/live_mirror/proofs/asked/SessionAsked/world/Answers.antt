use Rattle.std.proofs.Common.{◌-◌, ◌≤◌, length, ap, arith}
use Rattle.live_mirror.proofs.asked.SessionAsked.world.Goals as goal

pub push_copy-requires : goal.push_copy-requires
push_copy-requires g c = let f : c.args.copy ≤ length c.args.self.now.mirror.runs - 1 = c.requires in omega (arith, f, c.always.ensures.copies, ap (λ s. length s.mirror.runs) c.self.view_is)
