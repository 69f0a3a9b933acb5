use Rattle.std.proofs.Common.{sym}
use Rattle.sync_model.proofs.Answered.{restagger_one}
use Rattle.mirror_core.proofs.Kept.{kept_restaggered, small-numbers}
use Rattle.mirror_core.proofs.inner.MirrorCore.restagger.Goals as goal

pub renew_all-requires : goal.renew_all-requires
renew_all-requires g c = small-numbers c.self.invariant

pub invariant_of-self : goal.invariant_of-self
invariant_of-self g c =
    let there = rw (← c.self.view_is) at c.requires.there in
    let spare = rw (← c.self.view_is) at c.requires.room in
    rw (c.push_reserved.ensures.items, c.push_reserved.ensures.capacity)
    (kept_restaggered c.self.invariant c.args.plan _ there spare c.renew_all.ensures)

pub returns-clause-state : goal.returns-clause-state
returns-clause-state g c =
    rw (← c.self.view_is, c.push_reserved.ensures.items) (sym (restagger_one _ c.args.plan).0)

pub returns-clause-answer : goal.returns-clause-answer
returns-clause-answer g c = (restagger_one _ c.args.plan).1
