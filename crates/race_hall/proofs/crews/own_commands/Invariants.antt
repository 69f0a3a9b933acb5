use Rattle.std.proofs.Common.{◌≡◌, ◌==◌, filter, take}
use Rattle.race_hall.proofs.crews.own_commands.Given as goal

abbrev pub invariant-loop-x : goal.invariant-loop-x
invariant-loop-x l = l.plan.items ≡ filter (λ x. x.from == l.mirror) (take l.x-index l.commands)
