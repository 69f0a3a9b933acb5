use Rattle.std.proofs.Common.{◌-◌, ◌≤◌, arith}
use Rattle.live_mirror.proofs.asked.SessionAsked.cmd.Goals as goal

pub play_event-requires-clause-fits : goal.play_event-requires-clause-fits
play_event-requires-clause-fits g c = let f : c.args.command.time ≤ c.args.self.now.mirror.length - 1 = c.requires.1 in omega (arith, f, c.always.ensures.ticks)

pub overflow_add-command : goal.overflow_add-command
overflow_add-command g c = let f : c.args.command.number ≤ 999999 = c.requires.2 in omega (arith, f)

pub invariant_of-self : goal.invariant_of-self
invariant_of-self g c =
    let f : c.args.command.number ≤ 999999 = c.requires.2 in
    let is = c.self.invariant in
    record { ticks_are = is.ticks_are; plans_are = is.plans_are; few_players = is.few_players; next_is = omega (arith, f, is.next_is, c.max-self-inside.ensures) }
