use Rattle.std.proofs.Common.{◌≡◌, suc, ◌+◌, ◌-◌, ap, sym, ◌∙◌, arith}
use Rattle.game_trait.specs.Run.{world_of}
use Rattle.game_trait.specs.Ordered.{ticks}
use Rattle.game_trait.specs.Front.{due_behind}
use Rattle.rewind_store.proofs.DueFrom.{world_of-next, world_of-no_ticks, due_behind-due_from}
use Rattle.rewind_store.proofs.ticks.execute_ticks.Goals as goal

pub loop-t-preserved : goal.loop-t-preserved
loop-t-preserved g c =
    let t = c.loop-t.t in
    let xs = c.args.commands.now in
    let n : c.args.to - t ≡ suc (c.args.to - (t + 1)) = omega arith in
    record {
      rest = c.apply_due-left.ensures.rest ∙ ap (due_behind t) c.loop-t.invariant.rest ∙ due_behind-due_from t xs c.requires.rise;
      world =
          rw (c.beat.ensures, c.apply_due-left.ensures.world, c.loop-t.invariant.rest) (world_of-next g.G.Game.rules c.loop-t.game t (c.args.to - (t + 1)) xs c.requires.rise)
          ∙ ap (λ (k : _). world_of g.G.Game.rules c.loop-t.game (ticks xs t k)) (sym n)
          ∙ c.loop-t.invariant.world;
    }

pub returns : goal.returns
returns g c =
    sym (world_of-no_ticks g.G.Game.rules c.loop-t.game c.args.commands.now c.loop-t.t (c.args.to - c.loop-t.t) (omega arith))
    ∙ c.loop-t.invariant.world
