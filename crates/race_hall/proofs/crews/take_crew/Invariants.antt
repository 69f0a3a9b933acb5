use Rattle.std.proofs.Common.{◌≤◌, vec_capacity}
use Rattle.race_hall.specs.Crews.{IsTakenBack}
use Rattle.race_hall.proofs.crews.take_crew.Given as goal

abbrev pub invariant-loop : goal.invariant-loop
invariant-loop g l = record {
  taken : IsTakenBack l.counter l.fn.ends.rest.items l.ends.rest.items l.seats.items l.given;
  room : l.count ≤ vec_capacity l.seats;
}
