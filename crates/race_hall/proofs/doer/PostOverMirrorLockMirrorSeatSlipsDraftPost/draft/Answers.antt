use Rattle.std.proofs.Common.{rules, subst, sym}
use Rattle.mirror_lock.specs.declared.calls.LockCall.TheVariants.{Event, Draft}
use Rattle.turn_lock.specs.Views.{view, FitsSeat}
use Rattle.mirror_lock.specs.Locked.{mirror_rules}
use Rattle.game_trait.specs.declared.event.Event.TheVariants.{Step}
use Rattle.race_hall.proofs.Posting.{draft-fits, drawn-told, readied-draft, trail-more}
use Rattle.race_hall.proofs.doer.PostOverMirrorLockMirrorSeatSlipsDraftPost.draft.Goals as goal

pub draft_on-requires-clause-fits : goal.draft_on-requires-clause-fits
draft_on-requires-clause-fits g c = draft-fits g.G.Game.rules (view c.self.inside.seat.seat) c.args.copy c.args.times
    (subst (λ s. FitsSeat (mirror_rules g.G.Game.rules) (view s.seat) (Event (Step c.args.copy))) (sym c.self.view_is)
    c.requires.takes)

pub invariant_of-self : goal.invariant_of-self
invariant_of-self g c = (
  search rules,
  readied-draft g.G.Game.rules (view c.self.inside.seat.seat) (view c.draft_on.new.seat.seat) c.args.copy c.args.times c.draft_on.new.slip.reply c.draft_on.ensures.ready.0 c.draft_on.ensures.called
      c.draft_on.ensures.ready.1 c.draft_on.ensures.ready.2,
)

pub returns-clause-drawn : goal.returns-clause-drawn
returns-clause-drawn g c =
    rw c.drawn_in.ensures (drawn-told g.G.Game.rules (view c.self.inside.seat.seat) (view c.draft_on.new.seat.seat)
    c.args.copy c.args.times c.draft_on.new.slip.reply c.self.inside.seat.opened c.draft_on.ensures.called)

pub returns-clause-takes : goal.returns-clause-takes
returns-clause-takes g c = λ e h. c.draft_on.ensures.fits (Event e) (subst (λ s. FitsSeat (mirror_rules g.G.Game.rules) (view s.seat) (Event e)) (sym c.self.view_is) h)

pub returns-clause-trail : goal.returns-clause-trail
returns-clause-trail g c =
    rw c.drawn_in.ensures (rw (← c.self.view_is)
    (trail-more g.G.Game.rules (view c.self.inside.seat.seat) (view c.draft_on.new.seat.seat) (Draft c.args.copy c.args.times) c.draft_on.new.slip.reply c.draft_on.ensures.called))
