use Rattle.std.proofs.Common.{◌-◌, ◌≤◌, length, arith}
use Rattle.live_mirror.proofs.asked.SessionAsked.step.Goals as goal

pub play_event-requires-clause-fits : goal.play_event-requires-clause-fits
play_event-requires-clause-fits g c = let f : c.args.copy ≤ length c.args.self.now.mirror.runs - 1 = c.requires in omega (arith, f, c.always.ensures.copies)
