use Rattle.std.proofs.Common.{ap, ◌∙◌}
use Rattle.std.specs.Prelude.{Err}
use Rattle.game_trait.specs.Run.{IsPrefix}
use Rattle.live_talk.specs.Head.{fed_at}
use Rattle.tss_mirror.specs.Run.{side, status_at}
use Rattle.tss_mirror.proofs.RunLaws.{ends-answered, ends-past, ends-broken, rose-from}
use Rattle.tss_mirror.proofs.talking.talk_with.Goals as goal

pub returns-in-Ok-Answered : goal.returns-in-Ok-Answered
returns-in-Ok-Answered g c = λ old front steady.
    let seen = side g.P.Peer.left g.P.Peer.said g.P.Peer.faults in
    ends-answered _ _ (λ s. fed_at g.S.Answerer.way s.place) c.args.limit (λ bytes. IsPrefix c.args.front.now bytes) c.new-ear.result c.talk_whole.new.ear old (seen c.talk_whole.new.peer) c.status_at.result c.new-ear.ensures
    (c.in-Ok-Answered.ensures.answered c.in-Ok-Answered.field-0-is old.shown front)
    (c.status_at.ensures ∙ ap status_at (c.fed.ensures ∙ ap (λ s. fed_at g.S.Answerer.way s.place) c.answerer.ensures)) (c.in-Ok-Answered.ensures.steady ∙ steady)

pub returns-in-Ok-TooLong : goal.returns-in-Ok-TooLong
returns-in-Ok-TooLong g c = λ old front steady.
    let seen = side g.P.Peer.left g.P.Peer.said g.P.Peer.faults in
    ends-past _ _ (λ s. fed_at g.S.Answerer.way s.place) c.args.limit (λ bytes. IsPrefix c.args.front.now bytes) c.new-ear.result c.as_bytes.result.now old (seen c.talk_whole.new.peer) c.new-ear.ensures (cc)
    (c.in-Ok-TooLong.ensures.past c.in-Ok-TooLong.field-0-is old.shown front) (c.in-Ok-TooLong.ensures.steady ∙ steady)

pub returns : goal.returns
returns g c = λ old front steady.
    let seen = side g.P.Peer.left g.P.Peer.said g.P.Peer.faults in
    ends-broken _ _ (λ s. fed_at g.S.Answerer.way s.place) c.args.limit (λ bytes. IsPrefix c.args.front.now bytes) c.new-ear.result c.as_bytes.result.now old (seen c.talk_whole.new.peer) c.in-Err.fault c.status_of.result c.new-ear.ensures
    (cc) c.status_of.ensures (c.in-Err.ensures.broken old.shown front) (λ e. c.in-Err.ensures.unheard e old.shown front)
    (λ e. rose-from _ _ _ steady (c.in-Err.ensures.not_heard (λ i. Err (e i)))) (λ e. rose-from _ _ _ steady (c.in-Err.ensures.not_told (λ i. Err (e i))))
