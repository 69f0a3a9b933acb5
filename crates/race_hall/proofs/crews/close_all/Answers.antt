use Rattle.std.proofs.Common.{length, ap, sym, rules, subst, arith, vec_capacity}
use Rattle.std.specs.List.{AllByRecursion}
use Rattle.std.proofs.lemmas.List.{nil_from_length}
use Rattle.race_hall.specs.Crews.{AllClosed, IsRoomy}
use Rattle.race_hall.proofs.ClosedCrews.{going-begins, going-next, going-more, going-ends, all-closed-more, none-closed}
use Rattle.race_hall.proofs.crews.close_all.Goals as goal

pub loop-lock-init : goal.loop-lock-init
loop-lock-init g c =
    let gives = c.into_iter-lock-iterator.ensures.into_iter_gives.0 in (
      search rules,
      search rules,
      record {
        room =
            (let a = ap (λ l. length l) gives in let b = c.args.locks.ok.0 in let d = ap (λ l. length l) c.requires.empty.0 in let e = ap (λ l. length l) c.requires.empty.1 in
            let l = ap (λ l. length l) c.into_iter-seats.ensures.rest in let m = c.args.seats.ok.0 in
            let f = c.args.mirrors.ok.0 in let h = c.args.feeders.ok.0 in let i = c.requires.room.0 in let j =
            c.requires.room.1 in let k = c.requires.room.2 in (omega arith, omega arith, omega arith));
        seats = subst (AllByRecursion (λ v. IsRoomy c.args.copies v.items (vec_capacity v))) (sym c.into_iter-seats.ensures.rest) c.requires.seats;
        going = λ course opening spare jobs count by.
            going-begins _ (AllClosed course opening spare) jobs _ _ _ _ _ _ c.requires.empty.1 c.requires.empty.0 (none-closed course opening spare) gives c.into_iter-ends.ensures.rest by;
      },
    )

pub take_next-requires : goal.take_next-requires
take_next-requires g c = (let a = ap (λ l. length l) c.in-Some.ensures.steps.0 in let b = c.loop-lock.invariant.2.room.0 in omega arith)

pub close_one-mirror-requires-clause-crew : goal.close_one-mirror-requires-clause-crew
close_one-mirror-requires-clause-crew g c =
    let r = c.requires.crews in
    let next = going-next _ (AllClosed r.0 r.1 r.2) r.3 _ _ _ _ _ _ (c.loop-lock.invariant.2.going r.0 r.1 r.2 r.3 r.4 r.5) c.in-Some.ensures.steps.0 in
    (r.0, r.1, r.2, next.job, next.more, r.4, record { crew = next.crew; parts = next.parts; done = next.is.0 }, next.is.1)

pub close_one-mirror-requires-clause-room : goal.close_one-mirror-requires-clause-room
close_one-mirror-requires-clause-room g c =
    (subst (AllByRecursion (λ v. IsRoomy c.args.copies v.items (vec_capacity v))) c.take_next.ensures c.loop-lock.invariant.2.seats).0

pub loop-lock-preserved : goal.loop-lock-preserved
loop-lock-preserved g c = (
  search rules,
  search rules,
  record {
    room =
        (let a = ap (λ l. length l) c.in-Some.ensures.steps.0 in
        let b = c.loop-lock.invariant.2.room.0 in
        let d = c.loop-lock.invariant.2.room.1 in
        let e = c.loop-lock.invariant.2.room.2 in
        let f = ap (λ l. length l) c.take_next.ensures in
        let h = c.push_reserved.ensures.len in
        let i = c.push_reserved.ensures.capacity in
        let j = c.push_reserved-in-loop-lock.ensures.len in
        let k = c.push_reserved-in-loop-lock.ensures.capacity in
        (omega arith, omega arith, omega arith));
    seats =
        (subst (AllByRecursion (λ v. IsRoomy c.args.copies v.items (vec_capacity v))) c.take_next.ensures c.loop-lock.invariant.2.seats).1;
    going = λ course opening spare jobs count by.
        let was = c.loop-lock.invariant.2.going course opening spare jobs count by in
        let next = going-next _ (AllClosed course opening spare) jobs _ _ _ _ _ _ was c.in-Some.ensures.steps.0 in
        let one = c.close_one-mirror.ensures course opening spare next.job next.more count (record { crew = next.crew; parts = next.parts; done = next.is.0 }) next.is.1 in
        going-more _ (AllClosed course opening spare) jobs _ _ _ _ _ _ _ _ _ _ _ was c.in-Some.ensures.steps.0 one.0 c.push_reserved-in-loop-lock.ensures.items c.push_reserved.ensures.items
        (λ h. all-closed-more course opening spare was.gone _ _ next.job _ _ one.1 h);
  },
)

pub returns : goal.returns
returns g c = λ course opening spare jobs count by.
    going-ends _ (AllClosed course opening spare) jobs _ _ _ _ (c.loop-lock.invariant.2.going course opening spare jobs count by) (nil_from_length c.loop-lock.lock-iterator.rest.items (search rules))
