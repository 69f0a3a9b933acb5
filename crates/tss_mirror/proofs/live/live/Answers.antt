use Rattle.std.proofs.Common.{ℕ, Option, subst}
use Rattle.live_talk.specs.Staging.{staging}
use Rattle.tss_mirror.specs.Run.{side, EndsBy}
use Rattle.tss_mirror.proofs.live.live.Goals as goal

pub returns-in-Some : goal.returns-in-Some
returns-in-Some g c =
    let game = staging g.G.Game.rules g.G.Shown.lines g.G.Begins.opening in
    let seen = side g.P.Peer.left g.P.Peer.said g.P.Peer.faults in (
      c.talk_as.result,
      c.of.ensures,
      subst (λ (o : Option ℕ). EndsBy game o (seen c.args.peer.now) (seen c.talk_as.new.peer) c.talk_as.result) c.in-Some.ensures c.talk_as.ensures,
    )

pub returns-in-None : goal.returns-in-None
returns-in-None g c =
    let game = staging g.G.Game.rules g.G.Shown.lines g.G.Begins.opening in
    let seen = side g.P.Peer.left g.P.Peer.said g.P.Peer.faults in (
      c.tell_usage.result,
      c.of-in-None.ensures,
      subst (λ (o : Option ℕ). EndsBy game o (seen c.args.peer.now) (seen c.tell_usage.new.peer) c.tell_usage.result) c.in-None.ensures c.tell_usage.ensures,
    )
