use Rattle.std.proofs.Common.{subst}
use Rattle.run_auditor.specs.Walks.{WentOn, Stopped}
use Rattle.run_auditor.proofs.AuditLaws.{found_stuck, found_false, found_right}
use Rattle.report_text.specs.Worlds.{showing}
use Rattle.run_auditor.proofs.auditing.audit_walk.Goals as goal

pub returns-in-Some : goal.returns-in-Some
returns-in-Some g c =
    let w = c.walk_through-stuck.new.walk in
    let on = subst (λ v. WentOn v w) c.requires.begun c.walk_through-stuck.ensures.on in
    let stopped = subst (Stopped w) c.in-Some.is c.walk_through-stuck.ensures.stopped in
    found_stuck (showing g.G.Game.rules g.G.Shown.lines c.args.game.now.names)
    c.args.walk.now.mirror.opening c.args.game.now c.args.log.now.mirror c.args.log.now.events c.args.blocks.now w
    c.in-Some.fault (rw c.mirror-mirror.ensures at c.always.ensures) on stopped

pub returns-in-Some-2 : goal.returns-in-Some-2
returns-in-Some-2 g c =
    let w = c.walk_through-stuck.new.walk in
    let on = subst (λ v. WentOn v w) c.requires.begun c.walk_through-stuck.ensures.on in
    let stopped = subst (Stopped w) c.in_default.is c.walk_through-stuck.ensures.stopped in
    found_false (showing g.G.Game.rules g.G.Shown.lines c.args.game.now.names)
    c.args.walk.now.mirror.opening c.args.game.now c.args.log.now.mirror c.args.log.now.events c.args.blocks.now w
    c.in-Some-2.copy c.requires.events (rw c.mirror-mirror.ensures at c.always.ensures) on stopped
    (rw (c.mirror-mirror.ensures, c.in-Some-2.is) at c.in_ok-copy.ensures)

pub returns-in-None : goal.returns-in-None
returns-in-None g c =
    let w = c.walk_through-stuck.new.walk in
    let on = subst (λ v. WentOn v w) c.requires.begun c.walk_through-stuck.ensures.on in
    let stopped = subst (Stopped w) c.in_default.is c.walk_through-stuck.ensures.stopped in
    found_right (showing g.G.Game.rules g.G.Shown.lines c.args.game.now.names)
    c.args.walk.now.mirror.opening c.args.game.now c.args.log.now.mirror c.args.log.now.events c.args.blocks.now w
    c.requires.events (rw c.mirror-mirror.ensures at c.always.ensures) on stopped
    (rw (c.mirror-mirror.ensures, c.in-None.is) at c.in_ok-copy.ensures)
