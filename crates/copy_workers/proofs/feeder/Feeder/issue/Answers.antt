use Rattle.std.proofs.Common.{◌≡◌, ◌+◌, ◌-◌, List, length, refl, sym, ◌∙◌, subst}
use Rattle.std.specs.List.{AllByRecursion, AllZip}
use Rattle.std.proofs.lemmas.List.{with_items_is}
use Rattle.game_trait.specs.declared.command.Command.{Command}
use Rattle.game_trait.specs.Ordered.{due_at}
use Rattle.link_ring.specs.declared.send.LinkSend.{LinkSend}
use Rattle.copy_workers.specs.Asking.{HasArrivals}
use Rattle.copy_workers.specs.Messages.{tick_messages}
use Rattle.copy_workers.specs.Sending.{MaySend, IsSent, IsFrom}
use Rattle.copy_workers.proofs.Standings.{issue-room, issue-stands}
use Rattle.copy_workers.proofs.feeder.Feeder.issue.Goals as goal

pub issue_tick-self-requires-clause-room : goal.issue_tick-self-requires-clause-room
issue_tick-self-requires-clause-room g c =
    let plan = c.deref.ensures.value in
    let sends = c.deref_mut.ensures.value in
    let room = issue-room c.requires.stands.0 c.args.self.now _ _ _ c.requires.stands.1.stands c.if-self.true c.if-self-2.true in
    subst (λ (l : List LinkSend). AllByRecursion (MaySend (length c.deref.result.now - c.args.self.now.issued + 1)) l) (sym sends)
    (subst (λ (l : List Command). AllByRecursion (MaySend (length l - c.args.self.now.issued + 1)) c.args.self.now.sends.items) (sym plan) room)

pub returns-then-self-2-clause-stands : goal.returns-then-self-2-clause-stands
returns-then-self-2-clause-stands g c s h =
    let plan = c.deref.ensures.value in
    let sends = c.deref_mut.ensures.value in
    let then = with_items_is c.args.self.now.sends c.issue_tick-self.new.sends (c.issue_tick-self.auto.sends ∙ c.deref_mut.ensures.len) in
    let t = c.args.self.now.clock in
    issue-stands s c.args.self.now _ _ _ _ _ _ _ c.if-self.true c.if-self-2.true
    (subst (λ (l : List Command). HasArrivals (due_at l t) (g.P.Post.asked c.args.post.now) (g.P.Post.asked c.issue_tick-self.new.post)) plan c.issue_tick-self.ensures.asked)
    (subst (λ (l : List LinkSend). AllZip (IsSent (tick_messages c.args.self.now.plan.items t)) c.args.self.now.sends.items l) (sym then)
    (subst (λ (l : List LinkSend). AllZip (IsSent (tick_messages c.args.self.now.plan.items t)) l c.issue_tick-self.new.sends) sends
    (subst (λ (l : List Command). AllZip (IsSent (tick_messages l t)) c.deref_mut.result.now c.issue_tick-self.new.sends) plan c.issue_tick-self.ensures.sent)))
    (subst (λ (l : List Command). IsFrom l c.issue_tick-self.result (t + 1)) plan c.issue_tick-self.ensures.from)
    (subst (λ (l : List Command). c.issue_tick-self.result ≡ c.args.self.now.issued + length (due_at l t)) plan c.issue_tick-self.ensures.count)
    c.issue_tick-self.ensures.calls c.issue_tick-self.ensures.grows refl refl refl refl refl refl refl refl h
