use Rattle.std.proofs.Common.{◌-◌, subst, arith, ℕ}
use Rattle.trailing_copy.proofs.Ahead.{SoFar, Given, start, clocks-fall, room-for, grown-length}
use Rattle.trailing_copy.proofs.Ahead.{more, none-ahead_items, none-ahead_ends}
use Rattle.trailing_copy.proofs.Lists.{one-more}
use Rattle.trailing_copy.proofs.repairs.remake_runs_ahead.Goals as goal

pub returns-then-last-eq0-clause-items : goal.returns-then-last-eq0-clause-items
returns-then-last-eq0-clause-items c =
    let none = c.if-last-eq0.true in
    none-ahead_items c.args.list.now.all c.args.run.now.items c.args.clocks.now c.args.last
    (omega arith) c.requires.clock

pub returns-then-last-eq0-clause-ends : goal.returns-then-last-eq0-clause-ends
returns-then-last-eq0-clause-ends c =
    let none = c.if-last-eq0.true in none-ahead_ends _ c.args.clocks.now c.args.run.now.ends c.args.last (omega arith)

pub loop-c-init : goal.loop-c-init
loop-c-init c =
    let r = c.requires in
    let given : Given c.args.list.now.all c.args.clocks.now c.args.last c.args.run.now = record {
      there = r.there;
      as_many_clocks = r.as_many_clocks;
      level = r.level;
      clock = r.clock;
      falls = r.falls;
      room = r.room;
    } in
    record { upto = omega arith; place = c.start-place.ensures.start; given = given; so_far = start given }

pub append_ticks-place-requires-clause-order : goal.append_ticks-place-requires-clause-order
append_ticks-place-requires-clause-order c =
    clocks-fall c.loop-c.invariant.given (c.loop-c.c - 1)
    (let upto = c.loop-c.invariant.upto in let some = c.loop-c-test.true in omega arith)

pub append_ticks-place-requires-clause-room : goal.append_ticks-place-requires-clause-room
append_ticks-place-requires-clause-room c =
    let upto = c.loop-c.invariant.upto in
    let some = c.loop-c-test.true in
    let so_far =
    subst (λ (n : ℕ). SoFar c.args.list.now.all c.args.clocks.now c.args.last c.args.run.now n
    c.loop-c.run)
    (one-more c.loop-c.c (omega arith)) c.loop-c.invariant.so_far in
    room-for c.loop-c.invariant.given (c.loop-c.c - 1) (omega arith) so_far

pub bring_to_list_end-requires-clause-few : goal.bring_to_list_end-requires-clause-few
bring_to_list_end-requires-clause-few c =
    let upto = c.loop-c.invariant.upto in
    let some = c.loop-c-test.true in
    let so_far =
    subst (λ (n : ℕ). SoFar c.args.list.now.all c.args.clocks.now c.args.last c.args.run.now n
    c.loop-c.run)
    (one-more c.loop-c.c (omega arith)) c.loop-c.invariant.so_far in
    let long =
    grown-length c.loop-c.invariant.given (c.loop-c.c - 1) (omega arith) so_far
    c.append_ticks-place.ensures.run in
    let few = c.requires.few in
    omega arith

pub loop-c-preserved : goal.loop-c-preserved
loop-c-preserved c =
    let upto = c.loop-c.invariant.upto in
    let some = c.loop-c-test.true in
    let so_far =
    subst (λ (n : ℕ). SoFar c.args.list.now.all c.args.clocks.now c.args.last c.args.run.now n
    c.loop-c.run)
    (one-more c.loop-c.c (omega arith)) c.loop-c.invariant.so_far in
    record {
      upto = omega arith;
      place = c.append_ticks-place.ensures.next;
      given = c.loop-c.invariant.given;
      so_far =
          more c.loop-c.invariant.given (c.loop-c.c - 1) (omega arith) so_far
          c.append_ticks-place.ensures.run c.bring_to_list_end.ensures;
    }
