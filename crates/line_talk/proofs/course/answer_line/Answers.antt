use Rattle.std.proofs.Common.{List, ℕ, sym, subst}
use Rattle.line_talk.specs.Talk.{TellsFront, dues}
use Rattle.line_talk.proofs.HearingLaws.{fed-rest, on-err}
use Rattle.line_talk.proofs.TalkLaws.{answered-held, front-longer_told}
use Rattle.line_talk.proofs.course.answer_line.Goals as goal

pub returns-in_err-tell_held-in-Err-clause-broken :
    goal.returns-in_err-tell_held-in-Err-clause-broken
returns-in_err-tell_held-in-Err-clause-broken g c =
    let said = g.P.Peer.said in
    let due = dues g.A.Answerer.way c.args.ear.now c.args.piece.now in
    let front = subst (λ (l : List ℕ). TellsFront l (said c.args.peer.now) (said c.tell_held.new.peer)) c.in-Err.ensures.err c.in_err-tell_held-in-Err.ensures.front in
    on-err c.from_residual.result (front-longer_told _ due _ _ front)

pub returns-then-len-lt-MOST_HELD-clause-went : goal.returns-then-len-lt-MOST_HELD-clause-went
returns-then-len-lt-MOST_HELD-clause-went g c = answered-held _ _ _ _ _ _ _ _ c.in-Ok.ensures.fed

pub returns-in_err-tell_held-clause-broken : goal.returns-in_err-tell_held-clause-broken
returns-in_err-tell_held-clause-broken g c =
    let said = g.P.Peer.said in
    let f = c.in-Ok.ensures.fed in
    let due = dues g.A.Answerer.way c.feed_line.new.self c.in-Ok.rest.now in
    let front = front-longer_told _ due _ _ c.in_err-tell_held.ensures.front in
    on-err c.from_residual-in_err-tell_held.result
    (subst (λ (l : List ℕ). TellsFront l (said c.args.peer.now) (said c.tell_held-2.new.peer)) (sym (fed-rest _ _ _ _ _ _ _ f)) front)
