use Rattle.std.proofs.Common.{rules, subst, sym}
use Rattle.mirror_lock.specs.declared.calls.LockCall.TheVariants.{Event}
use Rattle.mirror_lock.specs.declared.calls.LockReply.TheVariants.{Event as ToEvent}
use Rattle.turn_lock.specs.Views.{view, FitsSeat}
use Rattle.mirror_lock.specs.Locked.{mirror_rules}
use Rattle.race_hall.proofs.Posting.{drawn-more, kind-told, readied-bare}
use Rattle.race_hall.proofs.doer.PostOverMirrorLockMirrorSeatSlipsPost.ask.Goals as goal

pub invariant_of-self : goal.invariant_of-self
invariant_of-self g c = (
  search rules,
  readied-bare g.G.Game.rules c.self.inside.slips.drafts.reply (view c.ask_on-reply.new.seat.seat)
      (drawn-more g.G.Game.rules (view c.self.inside.seat.seat) (view c.ask_on-reply.new.seat.seat) (Event c.args.event.now) (ToEvent c.ask_on-reply.result) c.ask_on-reply.ensures.called),
)

pub returns-clause-kind : goal.returns-clause-kind
returns-clause-kind g c =
    kind-told g.G.Game.rules (view c.self.inside.seat.seat) (view c.ask_on-reply.new.seat.seat) c.args.event.now c.ask_on-reply.result c.self.inside.seat.opened c.ask_on-reply.ensures.called

pub returns-clause-takes : goal.returns-clause-takes
returns-clause-takes g c = λ e h. c.ask_on-reply.ensures.fits (Event e) (subst (λ s. FitsSeat (mirror_rules g.G.Game.rules) (view s.seat) (Event e)) (sym c.self.view_is) h)

pub returns-clause-bare : goal.returns-clause-bare
returns-clause-bare g c =
    drawn-more g.G.Game.rules (view c.self.inside.seat.seat) (view c.ask_on-reply.new.seat.seat) (Event c.args.event.now) (ToEvent c.ask_on-reply.result) c.ask_on-reply.ensures.called
