use Rattle.std.proofs.Common.{◌≡◌, suc, ◌+◌, ◌-◌, refl, ap, sym, ◌∙◌, arith}
use Rattle.game_trait.specs.Run.{world_of}
use Rattle.game_trait.specs.Ordered.{ticks}
use Rattle.game_trait.proofs.Front.{FromTick-start, due_behind-FromTick, world_of-tick, world_of-in_key_order, world_of-no_ticks}
use Rattle.game_trait.proofs.order.execute_in_order.Goals as goal

pub loop-t-init : goal.loop-t-init
loop-t-init g c = rw c.order_by_key.ensures (record { due = FromTick-start _ c.requires; world = (let e : c.args.length - 0 ≡ c.args.length = omega arith in rw e refl) })

pub loop-t-preserved : goal.loop-t-preserved
loop-t-preserved g c =
    let left = c.loop-t.left.now in
    let t = c.loop-t.t in
    let n : c.args.length - t ≡ suc (c.args.length - (t + 1)) = omega arith in
    rw c.apply_due-left.ensures.rest (record {
      due = due_behind-FromTick t left c.loop-t.invariant.due;
      world =
          rw (c.beat.ensures, c.apply_due-left.ensures.world) (world_of-tick g.G.Game.rules c.loop-t.game t (c.args.length - (t + 1)) left c.loop-t.invariant.due)
          ∙ ap (λ (k : _). world_of g.G.Game.rules c.loop-t.game (ticks left t k)) (sym n)
          ∙ c.loop-t.invariant.world;
    })

pub returns-clause-world : goal.returns-clause-world
returns-clause-world g c =
    sym (world_of-no_ticks g.G.Game.rules c.loop-t.game c.loop-t.left.now c.loop-t.t (c.args.length - c.loop-t.t) (omega arith))
    ∙ c.loop-t.invariant.world
    ∙ world_of-in_key_order g.G.Game.rules c.args.game.now c.args.commands.now c.args.length c.requires
