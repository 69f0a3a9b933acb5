use Rattle.std.proofs.Common.{length}
use Rattle.run_auditor.proofs.AuditLaws.{MirrorsOn}
use Rattle.report_text.specs.Worlds.{showing}
use Rattle.run_auditor.proofs.auditing.audit.Given as goal

abbrev pub invariant-loop-log : goal.invariant-loop-log
invariant-loop-log g l = MirrorsOn (showing g.G.Game.rules g.G.Shown.lines l.r.game.names) l.opening l.r.game l.logs l.worlds l.r.logs l.r.worlds l.events

abbrev pub decreases-loop-log : goal.decreases-loop-log
decreases-loop-log g l = length l.logs
