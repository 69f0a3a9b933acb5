use Rattle.std.proofs.Common.{◌≡◌, ◌-◌, ◌++◌}
use Rattle.sync_model.specs.Turns.{drain_within}
use Rattle.mirror_report.specs.Report.{drain_text}
use Rattle.mirror_report.proofs.drain.drain_mirror.Given as goal

abbrev pub invariant-loop : goal.invariant-loop
invariant-loop g l = record {
  state : drain_within (l.turns - l.counter) l.mirror ≡ drain_within l.turns l.fn.mirror;
  text : l.out.items ++ drain_text l.number (l.turns - l.counter) l.mirror ≡ l.fn.out.items ++ drain_text l.number l.turns l.fn.mirror;
  made : l.mirror ≡ drain_within l.counter l.fn.mirror;
  put : l.out.items ≡ l.fn.out.items ++ drain_text l.number l.counter l.fn.mirror;
}
