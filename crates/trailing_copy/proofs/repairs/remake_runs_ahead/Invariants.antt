use Rattle.std.proofs.Common.{◌≡◌, ◌≤◌, slice_index_or}
use Rattle.pending_list.specs.Buckets.{start_of}
use Rattle.trailing_copy.proofs.Ahead.{SoFar, Given}
use Rattle.trailing_copy.proofs.repairs.remake_runs_ahead.Given as goal

abbrev pub invariant-loop-c : goal.invariant-loop-c
invariant-loop-c l = record {
  upto : l.c ≤ l.last;
  place : l.place ≡ start_of l.list.all (slice_index_or l.clocks l.c 0);
  given : Given l.list.all l.clocks l.last l.fn.run;
  so_far : SoFar l.list.all l.clocks l.last l.fn.run l.c l.run;
}

abbrev pub decreases-loop-c : goal.decreases-loop-c
decreases-loop-c l = l.c
