use Rattle.std.proofs.Common.{length}
use Rattle.run_auditor.specs.Audit.{IsStated}
use Rattle.run_auditor.proofs.AuditLaws.{ItemsOn}
use Rattle.report_text.specs.Worlds.{showing}
use Rattle.run_auditor.proofs.auditing.false_world.Given as goal

abbrev pub invariant-loop-block : goal.invariant-loop-block
invariant-loop-block g l = ItemsOn (IsStated (showing g.G.Game.rules g.G.Shown.lines l.game.names) l.number l.mirror) l.copy l.rest l.blocks

abbrev pub decreases-loop-block : goal.decreases-loop-block
decreases-loop-block g l = length l.rest
