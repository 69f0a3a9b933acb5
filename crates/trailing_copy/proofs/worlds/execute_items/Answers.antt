use Rattle.std.proofs.Common.{arith}
use Rattle.std.proofs.lemmas.Option.{get_or_from_slice_get}
use Rattle.trailing_copy.proofs.Fresh.{executed-none, executed-more}
use Rattle.trailing_copy.proofs.worlds.execute_items.Goals as goal

pub loop-place-init : goal.loop-place-init
loop-place-init g c =
    executed-none g.G.Game.rules c.args.world.now c.args.run.now.items c.args.start

pub loop-place-preserved : goal.loop-place-preserved
loop-place-preserved g c =
    executed-more g.G.Game.rules c.args.world.now c.loop-place.world c.execute_item.new.world
    c.args.run.now.items c.args.start c.loop-place.place c.item.result (omega arith) (omega arith)
    (get_or_from_slice_get c.args.run.now.items c.loop-place.place c.item.result c.item.result
    c.item.ensures) c.loop-place.invariant c.execute_item.ensures
