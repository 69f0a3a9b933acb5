use Rattle.std.proofs.Common.{◌≡◌, ◌+◌, ◌<◌, ◌≤◌}
use Rattle.game_trait.specs.declared.event.Event.{Event}
use Rattle.copy_workers.specs.Feed.{ending_clock}
use Rattle.copy_workers.specs.Standing.{Start, IsHeld, Rests}
use Rattle.copy_workers.proofs.feeder.Feeder.hold.Given as goal

abbrev pub invariant-loop : goal.invariant-loop
invariant-loop g l = record {
  held : IsHeld l.self;
  stands :
      (c : Start) → Rests c l.fn.self (g.P.Post.asked l.fn.post) (g.P.Post.calls l.fn.post) (g.P.Post.grows l.fn.post)
      → l.fn.self.clock < ending_clock c.job → l.fn.self.turns + l.most ≤ c.budget
      → Rests c l.self (g.P.Post.asked l.post) (g.P.Post.calls l.post) (g.P.Post.grows l.post);
  clock : l.self.clock ≡ l.fn.self.clock;
  turns : l.self.turns ≡ l.fn.self.turns + l.counter;
  bounds : l.self.bounds ≡ l.fn.self.bounds;
  takes : (e : Event) → g.P.Post.takes l.fn.post e → g.P.Post.takes l.post e;
  same : (p : _) → g.P.Post.same p l.fn.post → g.P.Post.same p l.post;
}
