use Rattle.std.proofs.Common.{ap, ◌∙◌, rules, subst, sym}
use Rattle.mirror_lock.specs.declared.calls.LockCall.TheVariants.{Event}
use Rattle.mirror_lock.specs.declared.calls.LockReply.TheVariants.{Commit as ToCommit}
use Rattle.mirror_lock.specs.Locked.{mirror_rules}
use Rattle.sync_model.specs.Drafts.{ready_of}
use Rattle.turn_lock.specs.Views.{view, FitsSeat}
use Rattle.race_hall.specs.Posting.{drawn_by}
use Rattle.race_hall.proofs.Posting.{drawn-more, readied-bare, asked-commit, trail-commit}
use Rattle.race_hall.proofs.doer.PostOverMirrorLockMirrorSeatSlipsDraftPost.commit.Goals as goal

pub run_drafted-copy-requires : goal.run_drafted-copy-requires
run_drafted-copy-requires g c =
    let d = c.requires.drawn in
    (d.0, (c.self.invariant.1 d.0 (ap (λ s. drawn_by (view s.seat)) c.self.view_is ∙ d.1)).0)

pub commit_on-committed-requires-clause-commit : goal.commit_on-committed-requires-clause-commit
commit_on-committed-requires-clause-commit g c =
    let d = c.requires.drawn in
    let ready = c.self.invariant.1 d.0 (ap (λ s. drawn_by (view s.seat)) c.self.view_is ∙ d.1) in
    (ready_of g.G.Game.rules d.0, c.run_drafted-copy.ensures d.0 ready.0)

pub commit_on-committed-requires-clause-fits : goal.commit_on-committed-requires-clause-fits
commit_on-committed-requires-clause-fits g c =
    let d = c.requires.drawn in
    let ready = c.self.invariant.1 d.0 (ap (λ s. drawn_by (view s.seat)) c.self.view_is ∙ d.1) in
    subst (λ q. FitsSeat (mirror_rules g.G.Game.rules) (view c.self.inside.seat.seat) q) (sym (c.run_drafted-copy.ensures d.0 ready.0)) ready.1

pub invariant_of-self : goal.invariant_of-self
invariant_of-self g c = (
  search rules,
  readied-bare g.G.Game.rules c.self.inside.slips.drafts.reply (view c.commit_on-committed.new.seat.seat)
      (drawn-more g.G.Game.rules (view c.self.inside.seat.seat) (view c.commit_on-committed.new.seat.seat) _ (ToCommit c.commit_on-committed.result) c.commit_on-committed.ensures.called),
)

pub returns-clause-trail : goal.returns-clause-trail
returns-clause-trail g c = λ d some.
    let ready = c.self.invariant.1 d (ap (λ s. drawn_by (view s.seat)) c.self.view_is ∙ some) in
    rw (← c.self.view_is)
    (trail-commit g.G.Game.rules (view c.self.inside.seat.seat) (view c.commit_on-committed.new.seat.seat) _ d c.commit_on-committed.result (c.run_drafted-copy.ensures d ready.0)
    c.commit_on-committed.ensures.called)

pub returns-clause-asked : goal.returns-clause-asked
returns-clause-asked g c = λ d some.
    let ready = c.self.invariant.1 d (ap (λ s. drawn_by (view s.seat)) c.self.view_is ∙ some) in
    rw (← c.self.view_is)
    (asked-commit g.G.Game.rules (view c.self.inside.seat.seat) (view c.commit_on-committed.new.seat.seat) _ d c.commit_on-committed.result (c.run_drafted-copy.ensures d ready.0)
    c.commit_on-committed.ensures.called)

pub returns-clause-takes : goal.returns-clause-takes
returns-clause-takes g c = λ e h. c.commit_on-committed.ensures.fits (Event e) (subst (λ s. FitsSeat (mirror_rules g.G.Game.rules) (view s.seat) (Event e)) (sym c.self.view_is) h)

pub returns-clause-left : goal.returns-clause-left
returns-clause-left g c =
    drawn-more g.G.Game.rules (view c.self.inside.seat.seat) (view c.commit_on-committed.new.seat.seat) _ (ToCommit c.commit_on-committed.result) c.commit_on-committed.ensures.called
