use Rattle.std.proofs.Common.{◌≡◌, ◌∙◌, ap, sym, [], arith}
use Rattle.game_trait.specs.Ordered.{ordered}
use Rattle.game_trait.proofs.OrderedParts.{ordered-empty, ordered-more}
use Rattle.executed_list.specs.Segments.{run_grown}
use Rattle.executed_list.proofs.Grown.{grown-none}
use Rattle.repair_copy.proofs.Walking.{grown-on, grown-spare, tick-room}
use Rattle.repair_copy.proofs.append.append_ticks.Goals as goal

pub loop-t-init : goal.loop-t-init
loop-t-init c =
    let none : ordered c.args.list.now.all c.args.start c.args.start ≡ [] =
    ordered-empty c.args.list.now.all c.args.start c.args.start (omega arith) in
    record {
      run = grown-none c.args.run.now c.always.ensures.first ∙ ap (run_grown c.args.run.now) (sym none);
      place = c.requires.place;
    }

pub append_from-place-requires-clause-start : goal.append_from-place-requires-clause-start
append_from-place-requires-clause-start c = c.loop-t.invariant.place

pub append_from-place-requires-clause-room : goal.append_from-place-requires-clause-room
append_from-place-requires-clause-room c =
    (let from = c.loop-t.auto in
    let spare = grown-spare c.args.run.now c.loop-t.run _ c.loop-t.invariant.run in
    let room =
    tick-room c.args.list.now.all c.args.start c.loop-t.t c.args.stop (omega arith)
    (omega arith) in
    let whole = c.requires.room in
    omega arith)

pub loop-t-preserved : goal.loop-t-preserved
loop-t-preserved c =
    record {
      run =
          grown-on c.args.run.now c.loop-t.run _ _ _ _ c.loop-t.invariant.run
          c.append_from-place.ensures.run
          (ordered-more c.args.list.now.all c.args.start c.loop-t.t (omega arith));
      place = c.append_from-place.ensures.next;
    }
