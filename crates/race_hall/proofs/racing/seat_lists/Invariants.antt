use Rattle.std.proofs.Common.{◌≡◌, vec_len, vec_capacity}
use Rattle.std.specs.List.{AllByRecursion}
use Rattle.race_hall.specs.Crews.{IsRoomy}
use Rattle.race_hall.proofs.racing.seat_lists.Given as goal

abbrev pub invariant-loop : goal.invariant-loop
invariant-loop g l = record {
  roomy : AllByRecursion (λ v. IsRoomy l.copies v.items (vec_capacity v)) l.lists.items;
  count : vec_len l.lists ≡ l.counter;
}
