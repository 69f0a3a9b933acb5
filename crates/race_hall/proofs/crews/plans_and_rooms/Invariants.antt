use Rattle.std.specs.List.{AllZip}
use Rattle.race_hall.specs.Race.{count_from}
use Rattle.race_hall.specs.Raced.{course_of}
use Rattle.race_hall.specs.Crews.{IsPlanOf, IsRoomOf}
use Rattle.race_hall.proofs.crews.plans_and_rooms.Given as goal

abbrev pub invariant-loop-mirror : goal.invariant-loop-mirror
invariant-loop-mirror l = record {
  plans : AllZip (IsPlanOf (course_of l.m)) (count_from 0 l.mirror) l.plans.items;
  rooms : AllZip (IsRoomOf (course_of l.m)) (count_from 0 l.mirror) l.rooms.items;
}
