use Rattle.std.proofs.Common.{◌≡◌, [], List, ℕ, Option, sym, subst}
use Rattle.std.specs.Prelude.{IfSome}
use Rattle.line_talk.specs.Talk.{shown}
use Rattle.line_talk.proofs.WholeLaws.{when-done, when-err, answered-end, broken-end, broken-talk}
use Rattle.line_talk.proofs.FrontLaws.{front-talked, front-broken}
use Rattle.line_talk.proofs.whole.close_front.Goals as goal

pub returns-in-Ok-clause-answered : goal.returns-in-Ok-clause-answered
returns-in-Ok-clause-answered g c =
    let side = shown g.P.Peer.left g.P.Peer.said in
    let left = c.answer_piece.ensures.left in
    when-done c.close_talk.result c.close_talk.ensures.state c.close_talk.ensures.told (λ shut told none old f limit within.
    answered-end _ _ _ _ old (side c.answer_piece.new.peer) (side c.close_talk.new.peer) limit c.args.front.now within c.in-Ok.ensures.state
    (front-talked _ _ old (side c.args.peer.now) (side c.answer_piece.new.peer) c.args.front.now left c.in-Ok.ensures.told f)
    (subst (λ (l : Option (List ℕ)). IfSome l (λ rest. rest ≡ [])) (sym left) none) c.close_talk.ensures.left shut told)

pub returns-in-Ok-clause-broken : goal.returns-in-Ok-clause-broken
returns-in-Ok-clause-broken g c =
    let side = shown g.P.Peer.left g.P.Peer.said in
    when-err c.close_talk.result c.close_talk.ensures.broken (λ told old f limit too_long.
    broken-end _ _ _ old (side c.answer_piece.new.peer) (side c.close_talk.new.peer) limit too_long c.args.front.now c.in-Ok.ensures.state
    (front-talked _ _ old (side c.args.peer.now) (side c.answer_piece.new.peer) c.args.front.now c.answer_piece.ensures.left c.in-Ok.ensures.told f) c.close_talk.ensures.left told)

pub returns-in-Err-clause-broken : goal.returns-in-Err-clause-broken
returns-in-Err-clause-broken g c = λ old f limit too_long.
    let side = shown g.P.Peer.left g.P.Peer.said in
    let t = front-broken _ _ old (side c.args.peer.now) (side c.answer_piece.new.peer) c.args.front.now c.answer_piece.ensures.left c.in-Err.ensures.broken f in
    broken-talk _ _ old (side c.answer_piece.new.peer) limit too_long c.args.front.now t.0 t.1
