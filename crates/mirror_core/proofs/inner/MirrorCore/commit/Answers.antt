use Rattle.std.proofs.Common.{◌∙◌, sym, eqb, ltb, ◌||◌, arith}
use Rattle.mirror_core.proofs.Renewed.{renewed-as}
use Rattle.sync_model.proofs.Limits.{below-end, behind-ahead}
use Rattle.mirror_core.proofs.Calls.{commit-runs, committed-ran}
use Rattle.mirror_core.proofs.Kept.{kept_ran, note-ran, small-numbers}
use Rattle.mirror_core.proofs.inner.MirrorCore.commit.Goals as goal

pub commit_tick-repaired-requires-clause-below : goal.commit_tick-repaired-requires-clause-below
commit_tick-repaired-requires-clause-below g c =
    let more =
    commit-runs c.self.invariant g.G.Game.rules c.args.r.now c.copy-copy.result c.epoch.result
    c.of-now.result (rw (← c.self.view_is) at c.requires) c.copy-copy.ensures c.epoch.ensures
    c.of-now.ensures c.if-epoch-now.false in
    below-end _ c.copy-copy.result more

pub commit_tick-repaired-requires-clause-behind : goal.commit_tick-repaired-requires-clause-behind
commit_tick-repaired-requires-clause-behind g c =
    let more =
    commit-runs c.self.invariant g.G.Game.rules c.args.r.now c.copy-copy.result c.epoch.result
    c.of-now.result (rw (← c.self.view_is) at c.requires) c.copy-copy.ensures c.epoch.ensures
    c.of-now.ensures c.if-epoch-now.false in
    behind-ahead _ c.copy-copy.result more

pub renew_stepped-requires : goal.renew_stepped-requires
renew_stepped-requires g c = small-numbers c.self.invariant

pub push_reserved-requires : goal.push_reserved-requires
push_reserved-requires g c =
    let fits = rw (← c.self.view_is) at c.requires in
    let there = fits.there in
    let own = c.copy-copy.ensures in
    let more =
    commit-runs c.self.invariant g.G.Game.rules c.args.r.now c.copy-copy.result c.epoch.result
    c.of-now.result (rw (← c.self.view_is) at c.requires) c.copy-copy.ensures c.epoch.ensures
    c.of-now.ensures c.if-epoch-now.false in
    let room = note-ran c.self.invariant c.copy-copy.result (omega arith) more in
    let len = c.self.inside.history.ok.0 in
    omega arith

pub invariant_of-self : goal.invariant_of-self
invariant_of-self g c =
    let fits = rw (← c.self.view_is) at c.requires in
    let there = fits.there in
    let own = c.copy-copy.ensures in
    let more =
    commit-runs c.self.invariant g.G.Game.rules c.args.r.now c.copy-copy.result c.epoch.result
    c.of-now.result (rw (← c.self.view_is) at c.requires) c.copy-copy.ensures c.epoch.ensures
    c.of-now.ensures c.if-epoch-now.false in
    rw (
      c.commit_tick-repaired.ensures.state,
      c.push_reserved.ensures.items,
      c.push_reserved.ensures.capacity,
    )
    (kept_ran c.self.invariant c.copy-copy.result c.from.result _ (omega arith) more
    (c.from.ensures ∙ c.commit_tick-repaired.ensures.repaired)
    (renewed-as (λ i k. eqb i c.copy-copy.result || ltb i k) _ _ _ _ (sym c.from.ensures)
    c.renew_stepped.ensures))

pub returns-clause-state : goal.returns-clause-state
returns-clause-state g c =
    rw (← c.self.view_is, c.commit_tick-repaired.ensures.state, c.push_reserved.ensures.items)
    (committed-ran c.self.invariant g.G.Game.rules c.args.r.now c.copy-copy.result c.epoch.result
    c.of-now.result (rw (← c.self.view_is) at c.requires) c.copy-copy.ensures c.epoch.ensures
    c.of-now.ensures c.if-epoch-now.false)
