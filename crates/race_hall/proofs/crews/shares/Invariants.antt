use Rattle.std.proofs.Common.{◌≡◌, ◌*◌, replicate}
use Rattle.race_hall.proofs.crews.shares.Given as goal

abbrev pub invariant-loop : goal.invariant-loop
invariant-loop l = l.shares.items ≡ replicate l.counter (record { calls = 2 * l.feeder.budget; grows = 0 })
