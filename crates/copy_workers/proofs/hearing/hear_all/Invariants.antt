use Rattle.std.proofs.Common.{◌≡◌, ◌+◌, ◌≤◌, true, List}
use Rattle.game_trait.specs.declared.event.Event.{Event}
use Rattle.link_ring.specs.declared.receive.LinkReceive.{LinkReceive}
use Rattle.copy_workers.specs.declared.post.Asked.{Asked}
use Rattle.copy_workers.specs.Feed.{Task, Feed}
use Rattle.copy_workers.specs.Sending.{UpTo}
use Rattle.copy_workers.specs.Refining.{HeardTo}
use Rattle.copy_workers.proofs.hearing.hear_all.Given as goal

abbrev pub invariant-loop-i : goal.invariant-loop-i
invariant-loop-i g l = record {
  heard :
      (job : Task) (first : List LinkReceive) (asked : List Asked) (s : Feed) → job.length ≡ l.limit → job.foreign ≡ l.foreign
      → HeardTo job first asked s l.fn.receives l.fn.marks l.fn.taken (g.P.Post.asked l.fn.post) 0
      → HeardTo job first asked s l.receives l.marks l.taken (g.P.Post.asked l.post) l.i;
  others : UpTo (λ a b. Unit {0}) l.i l.fn.receives l.receives;
  calls : g.P.Post.calls l.fn.post ≤ g.P.Post.calls l.post + l.i;
  grows : g.P.Post.grows l.post + l.taken ≡ g.P.Post.grows l.fn.post + l.fn.taken;
  within : l.fn.taken ≤ l.foreign → l.taken ≤ l.foreign;
  quiet : l.quiet ≡ true → l.marks ≡ l.fn.marks;
  takes : (e : Event) → g.P.Post.takes l.fn.post e → g.P.Post.takes l.post e;
  same : (p : _) → g.P.Post.same p l.fn.post → g.P.Post.same p l.post;
}
