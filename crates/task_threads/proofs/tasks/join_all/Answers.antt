use Rattle.std.proofs.Common.{length, ap, rules, arith}
use Rattle.std.proofs.lemmas.List.{nil_from_length}
use Rattle.task_threads.proofs.Passing.{passed-more, passed-next, passed-begin, passed-end}
use Rattle.task_threads.proofs.tasks.join_all.Goals as goal

pub join_one-requires : goal.join_one-requires
join_one-requires g c =
    let next =
    passed-next _ _ _ c.requires.going.0 c.loop-one.ends.items c.in-Some.one c.next.new.self.rest.items c.loop-one.one-iterator.rest.items
    c.in-Some.ensures.steps.0 c.requires.going.2 (c.loop-one.invariant.2.passed c.requires.going.0 c.requires.going.1) in
    (next.with, next.is, next.can)

pub loop-one-init : goal.loop-one-init
loop-one-init g c =
    let gives = c.into_iter-one-iterator.ensures.into_iter_gives.0 in (
      search rules,
      search rules,
      record {
        passed = λ jobs zip. passed-begin _ _ jobs c.args.going.items c.into_iter-one-iterator.result.rest.items c.args.ends.items c.requires.room.0 gives zip;
        room = (let a = ap (λ l. length l) c.requires.room.0 in let b = ap (λ l. length l) gives in let d = c.args.ends.ok.0 in let e = c.args.going.ok.0 in let f = c.requires.room.1 in omega arith);
      },
    )

pub loop-one-preserved : goal.loop-one-preserved
loop-one-preserved g c = (
  search rules,
  search rules,
  record {
    passed = λ jobs zip.
        passed-more _ _ jobs c.loop-one.ends.items c.push_reserved.new.self.items c.join_one.result c.in-Some.one c.next.new.self.rest.items c.loop-one.one-iterator.rest.items
        c.push_reserved.ensures.items c.in-Some.ensures.steps.0 (λ job h. c.join_one.ensures job h) (c.loop-one.invariant.2.passed jobs zip);
    room = (let is = ap (λ l. length l) c.in-Some.ensures.steps.0 in let old = c.loop-one.invariant.2.room in
        let a = c.push_reserved.ensures.len in let b = c.push_reserved.ensures.capacity in omega arith);
  },
)

pub returns : goal.returns
returns g c = λ jobs zip.
    passed-end _ _ jobs c.loop-one.ends.items c.loop-one.one-iterator.rest.items (nil_from_length c.loop-one.one-iterator.rest.items (search rules)) (c.loop-one.invariant.2.passed jobs zip)
