use Rattle.std.proofs.Common.{arith, vec_capacity, rules}
use Rattle.std.proofs.lemmas.List.{nil_from_length}
use Rattle.std.proofs.lemmas.Slice.Zip.{AllZip-long}
use Rattle.task_threads.specs.Begun.{IsBegun}
use Rattle.task_threads.proofs.Passing.{more-room, begun-more, parts-more, length-more, whole-begun}
use Rattle.task_threads.proofs.tasks.go_in.Goals as goal

pub push_reserved-requires : goal.push_reserved-requires
push_reserved-requires g c =
    let v = c.loop-task.invariant.2 in
    (let a = more-room _ c.into_iter-task-iterator.result.rest.items c.loop-task.yielded
    c.loop-task.task-iterator.rest.items c.next.new.self.rest.items c.in-Some.task c.loop-task.begun.items
    (vec_capacity c.loop-task.begun)
    v.parts c.in-Some.ensures.steps.0 v.begun v.room in let b = c.loop-task.begun.ok.0 in omega arith)

pub loop-task-preserved : goal.loop-task-preserved
loop-task-preserved g c =
    let v = c.loop-task.invariant.2 in (
      tt,
      tt,
      record {
        parts = parts-more c.into_iter-task-iterator.result.rest.items c.loop-task.yielded
            c.loop-task.task-iterator.rest.items c.next.new.self.rest.items c.in-Some.task v.parts
            c.in-Some.ensures.steps.0;
        begun =
            begun-more (IsBegun (λ h. h.promise.task.value) g.J.Task.ends) c.loop-task.yielded c.in-Some.task c.loop-task.begun.items c.push_reserved.new.self.items c.begin_or_keep.result
            c.push_reserved.ensures.items v.begun c.begin_or_keep.ensures;
        number = length-more c.loop-task.yielded c.in-Some.task c.loop-task.number v.number;
        room = (let b = c.push_reserved.ensures.capacity in let d = v.room in omega arith);
      },
    )

pub go_on_all-requires-clause-begun : goal.go_on_all-requires-clause-begun
go_on_all-requires-clause-begun g c =
    let v = c.loop-task.invariant.2 in (
      c.args.tasks.items,
      whole-begun (IsBegun (λ h. h.promise.task.value) g.J.Task.ends) c.args.tasks.items
          c.into_iter-task-iterator.result.rest.items c.loop-task.yielded c.loop-task.task-iterator.rest.items
          c.loop-task.begun.items
          c.into_iter-task-iterator.ensures.into_iter_gives.0 v.parts (nil_from_length c.loop-task.task-iterator.rest.items (search rules)) v.begun,
      c.requires.can,
    )

pub go_on_all-requires-clause-room : goal.go_on_all-requires-clause-room
go_on_all-requires-clause-room g c =
    let v = c.loop-task.invariant.2 in
    let zip = whole-begun (IsBegun (λ h. h.promise.task.value) g.J.Task.ends) c.args.tasks.items
    c.into_iter-task-iterator.result.rest.items c.loop-task.yielded c.loop-task.task-iterator.rest.items
    c.loop-task.begun.items
    c.into_iter-task-iterator.ensures.into_iter_gives.0 v.parts (nil_from_length c.loop-task.task-iterator.rest.items (search rules)) v.begun in (
      c.requires.more.0,
      (let a = AllZip-long _ c.args.tasks.items c.loop-task.begun.items zip in
          let b = c.args.tasks.ok.0 in let d = c.loop-task.begun.ok.0 in let e = c.requires.more.1 in omega arith),
    )

pub returns : goal.returns
returns g c =
    let v = c.loop-task.invariant.2 in
    c.go_on_all.ensures c.args.tasks.items
    (whole-begun (IsBegun (λ h. h.promise.task.value) g.J.Task.ends) c.args.tasks.items
    c.into_iter-task-iterator.result.rest.items c.loop-task.yielded c.loop-task.task-iterator.rest.items
    c.loop-task.begun.items
    c.into_iter-task-iterator.ensures.into_iter_gives.0 v.parts (nil_from_length c.loop-task.task-iterator.rest.items (search rules)) v.begun)
