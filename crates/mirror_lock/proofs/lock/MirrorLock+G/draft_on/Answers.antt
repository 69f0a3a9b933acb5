use Rattle.std.proofs.Common.{subst}
use Rattle.turn_lock.specs.Calls.{IsCall}
use Rattle.turn_lock.specs.Views.{view}
use Rattle.mirror_lock.specs.Locked.{mirror_rules}
use Rattle.mirror_lock.proofs.Drafting.{told_after_draft}
use Rattle.mirror_lock.proofs.lock.MirrorLock+G.draft_on.Goals as goal

pub returns-clause-ready : goal.returns-clause-ready
returns-clause-ready g c =
    told_after_draft g.G.Game.rules (view c.args.seat.now.seat) (view c.call.new.seat.seat) c.args.copy c.args.times c.call.new.reply c.args.seat.now.opened
    c.requires.fits (subst (λ q. IsCall (mirror_rules g.G.Game.rules) (view c.args.seat.now.seat) q c.call.new.reply (view c.call.new.seat.seat)) c.put_draft.ensures c.call.ensures.called)
