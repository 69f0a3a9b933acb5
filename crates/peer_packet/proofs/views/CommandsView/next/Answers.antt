use Rattle.std.proofs.Common.{sym, ◌∙◌}
use Rattle.peer_packet.specs.Seen.{sent_seen}
use Rattle.peer_packet.proofs.WalkLaws.{commands_none, commands_not, commands_on}
use Rattle.peer_packet.proofs.views.CommandsView.next.Goals as goal

pub returns-then-self-eq0 : goal.returns-then-self-eq0
returns-then-self-eq0 c =
    let e = sym c.self.view_is ∙ commands_none c.self.inside.left c.self.inside.last c.self.inside.rest.now c.if-self-eq0.true in
    (e, e)

pub invariant_of-self : goal.invariant_of-self
invariant_of-self c = (commands_on c.self.inside.left c.self.inside.last c.self.inside.rest.now (sent_seen c.in-Ok.sent) c.in-Ok.rest.now c.if-self-eq0.false c.self.invariant c.in-Ok.ensures).0

pub unreachable-requires : goal.unreachable-requires
unreachable-requires c = commands_not c.self.inside.left c.self.inside.last c.self.inside.rest.now c.in-Err.field-0 c.if-self-eq0.false c.self.invariant c.in-Err.ensures

pub returns : goal.returns
returns c = sym c.self.view_is ∙ (commands_on c.self.inside.left c.self.inside.last c.self.inside.rest.now (sent_seen c.in-Ok.sent) c.in-Ok.rest.now c.if-self-eq0.false c.self.invariant c.in-Ok.ensures).1
