use Rattle.std.proofs.Common.{arith}
use Rattle.run_auditor.specs.declared.verdict.Verdict.TheVariants.{Legal, NotLegal}
use Rattle.run_auditor.proofs.AuditLaws.{mirrors_begin, mirrors_there, mirrors_next, mirrors_fault, mirrors_end, events_small, says_exactly}
use Rattle.report_text.specs.Worlds.{showing}
use Rattle.run_auditor.proofs.auditing.audit.Goals as goal

pub loop-log-init : goal.loop-log-init
loop-log-init g c = rw (c.as_slice-logs.ensures, c.as_slice-worlds.ensures)
    (mirrors_begin (showing g.G.Game.rules g.G.Shown.lines c.args.r.now.game.names)
    c.args.opening.now c.args.r.now c.requires)

pub audit_mirror-requires : goal.audit_mirror-requires
audit_mirror-requires g c =
    let next = mirrors_there (showing g.G.Game.rules g.G.Shown.lines c.args.r.now.game.names)
    c.args.opening.now c.args.r.now.game c.loop-log.logs.now
    c.in-Some.others.now c.loop-log.worlds.now c.in-Some-split_first.further.now c.in-Some.log.now
    c.in-Some-split_first.blocks.now c.args.r.now.logs c.args.r.now.worlds c.loop-log.events
    c.in-Some.ensures.cases.0 c.in-Some-split_first.ensures.cases.0 c.loop-log.invariant in
    let few = next.log_of.few in
    record {
      sound = c.requires.game;
      few = omega arith;
      events = next.log_of.events;
      copies = rw c.as_slice.ensures next.worlds_of.0;
    }

pub returns-in-Some-2-clause-verdict : goal.returns-in-Some-2-clause-verdict
returns-in-Some-2-clause-verdict g c =
    mirrors_fault (showing g.G.Game.rules g.G.Shown.lines c.args.r.now.game.names)
    c.args.opening.now c.args.r.now.game c.loop-log.logs.now c.in-Some.others.now c.loop-log.worlds.now
    c.in-Some-split_first.further.now c.in-Some.log.now c.in-Some-split_first.blocks.now c.args.r.now.logs
    c.args.r.now.worlds c.loop-log.events c.in-Some-2.fault
    c.in-Some.ensures.cases.0 c.in-Some-split_first.ensures.cases.0 (rw (c.as_slice.ensures, c.in-Some-2.is) at c.in_ok-fault.ensures) c.loop-log.invariant

pub returns-in-Some-2-clause-legal : goal.returns-in-Some-2-clause-legal
returns-in-Some-2-clause-legal g c = says_exactly (showing g.G.Game.rules g.G.Shown.lines c.args.r.now.game.names) c.args.opening.now c.args.r.now
    (NotLegal c.in-Some.log.now.mirror c.in-Some-2.fault.place c.in-Some-2.fault.why)
    (returns-in-Some-2-clause-verdict g c)

pub overflow_add-events : goal.overflow_add-events
overflow_add-events g c =
    let small = events_small (showing g.G.Game.rules g.G.Shown.lines c.args.r.now.game.names) c.args.opening.now c.args.r.now.game c.loop-log.logs.now
    c.in-Some.others.now c.loop-log.worlds.now c.in-Some.log.now c.args.r.now.logs c.args.r.now.worlds
    c.loop-log.events c.in-Some.ensures.cases.0 c.loop-log.invariant in
    omega (arith, c.len.ensures)

pub loop-log-preserved : goal.loop-log-preserved
loop-log-preserved g c =
    rw c.len.ensures (mirrors_next (showing g.G.Game.rules g.G.Shown.lines c.args.r.now.game.names) c.args.opening.now c.args.r.now.game c.loop-log.logs.now
    c.in-Some.others.now c.loop-log.worlds.now c.in-Some-split_first.further.now c.in-Some.log.now
    c.in-Some-split_first.blocks.now c.args.r.now.logs c.args.r.now.worlds c.loop-log.events
    c.in-Some.ensures.cases.0 c.in-Some-split_first.ensures.cases.0 (rw (c.as_slice.ensures, c.in_default-2.is) at c.in_ok-fault.ensures) c.loop-log.invariant)

pub returns-clause-verdict : goal.returns-clause-verdict
returns-clause-verdict g c = mirrors_end (showing g.G.Game.rules g.G.Shown.lines c.args.r.now.game.names) c.args.opening.now c.args.r.now.game c.loop-log.logs.now c.loop-log.worlds.now
    c.args.r.now.logs c.args.r.now.worlds c.loop-log.events c.in_default.ensures.cases c.loop-log.invariant

pub returns-clause-legal : goal.returns-clause-legal
returns-clause-legal g c = says_exactly (showing g.G.Game.rules g.G.Shown.lines c.args.r.now.game.names) c.args.opening.now c.args.r.now (Legal c.loop-log.events)
    (returns-clause-verdict g c)
