use Rattle.std.proofs.Common.{◌+◌, sym, subst, arith}
use Rattle.race_hall.specs.Crews.{IsTakenBack}
use Rattle.race_hall.proofs.CrewSeats.{taken-none, taken-left, taken-more}
use Rattle.race_hall.proofs.crews.take_crew.Goals as goal

pub loop-init : goal.loop-init
loop-init g c = record { taken = taken-none c.args.ends.now.rest.items c.args.seats.items c.requires.empty; room = c.requires.room }

pub take_next-seat-requires : goal.take_next-seat-requires
take_next-seat-requires g c =
    (let a = taken-left c.loop.counter _ _ _ _ c.loop.invariant.taken in let b = c.requires.there in let t = c.loop-test.true in omega arith)

pub loop-preserved : goal.loop-preserved
loop-preserved g c = record {
  taken =
      subst (IsTakenBack (c.loop.counter + 1) c.args.ends.now.rest.items c.take_next-seat.new.list.rest.items c.push_reserved.new.self.items) (sym c.into_feeder-given.ensures)
      (taken-more c.loop.counter c.args.ends.now.rest.items c.loop.ends.rest.items _ c.loop.seats.items _ c.loop.given c.take_next-seat.result c.loop.invariant.taken
      c.take_next-seat.ensures c.push_reserved.ensures.items);
  room = (let a = c.push_reserved.ensures.capacity in let b = c.loop.invariant.room in omega arith);
}
