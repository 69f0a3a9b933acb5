use Rattle.std.proofs.Common.{arith}
use Rattle.std.proofs.lemmas.Slice.Zip.{AllZip-long}
use Rattle.task_threads.proofs.tasks.do_all.Goals as goal

pub join_all-requires-clause-room : goal.join_all-requires-clause-room
join_all-requires-clause-room g c = (
  c.requires.empty.2,
  (let a = AllZip-long _ c.args.tasks.items c.go_through-going.result.items c.go_through-going.ensures in
      let b = c.args.tasks.ok.0 in let d = c.go_through-going.result.ok.0 in let e = c.requires.room.2 in omega arith),
)

pub returns : goal.returns
returns g c = c.join_all.ensures c.args.tasks.items c.go_through-going.ensures
