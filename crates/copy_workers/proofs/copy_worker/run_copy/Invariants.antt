use Rattle.std.proofs.Common.{◌+◌, ◌-◌, ◌*◌, ◌≤◌}
use Rattle.game_trait.specs.declared.event.Event.TheVariants.{Step}
use Rattle.copy_workers.specs.Copied.{Works}
use Rattle.copy_workers.proofs.copy_worker.run_copy.Given as goal

abbrev pub invariant-turns : goal.invariant-turns
invariant-turns g l = record {
  works : Works l.fn.job l.end (g.P.Post.calls l.fn.post) (g.P.Post.calls l.post) (g.P.Post.asked l.fn.post) (g.P.Post.asked l.post) (g.P.Post.trail l.fn.post) (g.P.Post.trail l.post);
  takes : g.P.Post.takes l.post (Step l.fn.job.copy);
  same : (p : _) → g.P.Post.same p l.fn.post → g.P.Post.same p l.post;
  calls : 2 * l.fn.job.budget ≤ g.P.Post.calls l.post + 2 * l.end.turns;
}

abbrev pub decreases-turns : goal.decreases-turns
decreases-turns g l = l.job.budget - l.end.turns
