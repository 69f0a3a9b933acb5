use Rattle.std.proofs.Common.{refl}
use Rattle.sync_model.proofs.Limits.{runs-on, below-end}
use Rattle.mirror_core.proofs.Calls.{put-fits}
use Rattle.mirror_core.proofs.inner.MirrorCore.draft_into.Goals as goal

pub due_len-commands-requires-clause-below : goal.due_len-commands-requires-clause-below
due_len-commands-requires-clause-below g c =
    let more =
    runs-on _ c.args.copy c.clock.result c.limit.result
    c.clock.ensures (rw (← c.self.view_is) at c.limit.ensures) c.if-clock-limit.false in
    below-end _ c.args.copy more

pub returns-clause-fits : goal.returns-clause-fits
returns-clause-fits g c =
    let there = rw (← c.self.view_is) at c.requires.there in
    let more =
    runs-on _ c.args.copy c.clock.result c.limit.result
    c.clock.ensures (rw (← c.self.view_is) at c.limit.ensures) c.if-clock-limit.false in
    rw (← c.self.view_is)
    (put-fits c.self.invariant g.G.Game.rules c.put.new.self c.args.copy _
    c.of.result there more (rw c.due_len-commands.ensures.same at c.put.ensures.draft) refl c.of.ensures)
