use Rattle.race_hall.proofs.CrewSeats.{Posted}
use Rattle.race_hall.proofs.crews.push_crew.Given as goal

abbrev pub invariant-loop-copy : goal.invariant-loop-copy
invariant-loop-copy g l = Posted l.feeder l.copy l.fn.jobs.items l.jobs.items l.fn.seats.items l.seats.rest.items
