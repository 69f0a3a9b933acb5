use Rattle.std.proofs.Common.{◌≡◌}
use Rattle.game_trait.specs.Ordered.{ordered}
use Rattle.executed_list.specs.Segments.{run_grown}
use Rattle.pending_list.specs.Buckets.{start_of}
use Rattle.repair_copy.proofs.append.append_ticks.Given as goal

abbrev pub invariant-loop-t : goal.invariant-loop-t
invariant-loop-t l = record {
  run : l.run ≡ run_grown l.fn.run (ordered l.list.all l.start l.t);
  place : l.place ≡ start_of l.list.all l.t;
}
