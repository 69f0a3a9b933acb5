use Rattle.std.proofs.Common.{ap, refl, ◌≡◌, ◌∙◌}
use Rattle.std.specs.Prelude.{Err}
use Rattle.live_talk.specs.Head.{fed_at}
use Rattle.tss_mirror.specs.Run.{side, status_at, too_long_text}
use Rattle.tss_mirror.proofs.RunLaws.{ends-answered, ends-broken, rose-from}
use Rattle.tss_mirror.proofs.talking.close_with.Goals as goal

pub returns-in-Ok : goal.returns-in-Ok
returns-in-Ok g c = λ old limit front steady none within.
    let seen = side g.P.Peer.left g.P.Peer.said g.P.Peer.faults in
    ends-answered _ _ (λ s. fed_at g.S.Answerer.way s.place) limit (λ bytes. bytes ≡ c.args.front.now) c.new-ear.result c.close_front.new.ear old (seen c.close_front.new.peer) c.status_at.result c.new-ear.ensures
    (c.in-Ok.ensures.answered none old.shown front limit within)
    (c.status_at.ensures ∙ ap status_at (c.fed.ensures ∙ ap (λ s. fed_at g.S.Answerer.way s.place) c.answerer.ensures)) (c.in-Ok.ensures.steady ∙ steady)

pub returns : goal.returns
returns g c = λ old limit front steady none within.
    let seen = side g.P.Peer.left g.P.Peer.said g.P.Peer.faults in
    ends-broken _ _ (λ s. fed_at g.S.Answerer.way s.place) limit (λ bytes. bytes ≡ c.args.front.now) c.new-ear.result too_long_text old (seen c.close_front.new.peer) c.in-Err.fault c.status_of.result c.new-ear.ensures
    refl c.status_of.ensures (c.in-Err.ensures.broken old.shown front limit too_long_text) (λ e. absurd (c.in-Err.ensures.heard e))
    (λ e. absurd (c.in-Err.ensures.heard e)) (λ e. rose-from _ _ _ steady (c.in-Err.ensures.rose (λ i. Err (e i))))
