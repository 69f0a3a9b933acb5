use Rattle.line_talk.specs.Talk.{shown}
use Rattle.line_talk.proofs.WholeLaws.{when-ok, when-err, answered-over, answered-ended, broken-ended, answered-full, broken-full, past-told, broken-past, unheard-talk, unheard-full, broken-unheard, broken-talk_on}
use Rattle.line_talk.proofs.whole.talk_whole.Goals as goal

pub returns-in-Ok-Over-clause-answered : goal.returns-in-Ok-Over-clause-answered
returns-in-Ok-Over-clause-answered g c = λ _ old f. answered-over _ _ _ _ _ _ _ (c.in-Ok-Over.ensures.passed old f) (c.in-Ok-Over.ensures.over c.in-Ok-Over.field-0-is)

pub returns-in-Ok-Ended-clause-answered : goal.returns-in-Ok-Ended-clause-answered
returns-in-Ok-Ended-clause-answered g c =
    let side = shown g.P.Peer.left g.P.Peer.said in
    when-ok c.close_talk.result _ c.close_talk.ensures.state c.close_talk.ensures.told (λ shut told end is old f.
    answered-ended _ _ _ _ _ old (side c.talk.new.peer) (side c.close_talk.new.peer) c.args.limit (c.in-Ok-Ended.ensures.passed old f) (c.in-Ok-Ended.ensures.ended c.in-Ok-Ended.field-0-is)
    c.close_talk.ensures.left shut told)

pub returns-in-Ok-Ended-clause-broken : goal.returns-in-Ok-Ended-clause-broken
returns-in-Ok-Ended-clause-broken g c =
    let side = shown g.P.Peer.left g.P.Peer.said in
    when-err c.close_talk.result c.close_talk.ensures.broken (λ told old f.
    broken-ended _ _ _ _ old (side c.talk.new.peer) (side c.close_talk.new.peer) c.args.limit c.args.too_long.now (c.in-Ok-Ended.ensures.passed old f) c.close_talk.ensures.left told)

pub returns-in-Ok-None-clause-answered : goal.returns-in-Ok-None-clause-answered
returns-in-Ok-None-clause-answered g c =
    let side = shown g.P.Peer.left g.P.Peer.said in
    let more = c.in-Ok-None in
    let shut = c.close_talk-in-Ok-None in
    when-ok shut.result _ shut.ensures.state shut.ensures.told (λ led told end is old f.
    answered-full _ _ _ _ _ old (side c.talk.new.peer) (side c.hear_one.new.peer) (side shut.new.peer) c.args.limit more.field-0 (c.in-Ok-Full.ensures.full c.in-Ok-Full.field-0-is old f)
    more.ensures.heard more.field-0-is (more.ensures.end more.field-0-is) shut.ensures.left led told)

pub returns-in-Ok-None-clause-broken : goal.returns-in-Ok-None-clause-broken
returns-in-Ok-None-clause-broken g c =
    let side = shown g.P.Peer.left g.P.Peer.said in
    let more = c.in-Ok-None in
    let shut = c.close_talk-in-Ok-None in
    when-err shut.result shut.ensures.broken (λ told old f.
    broken-full _ _ _ _ old (side c.talk.new.peer) (side c.hear_one.new.peer) (side shut.new.peer) c.args.limit more.field-0 c.args.too_long.now
    (c.in-Ok-Full.ensures.full c.in-Ok-Full.field-0-is old f) more.ensures.heard more.field-0-is shut.ensures.left told)

pub returns-in-Ok-Some-clause-past : goal.returns-in-Ok-Some-clause-past
returns-in-Ok-Some-clause-past g c =
    let side = shown g.P.Peer.left g.P.Peer.said in
    let told = c.tell_too_long in
    when-ok told.result _ told.ensures.told told.ensures.told (λ said _ end is old f.
    past-told _ _ _ _ old (side c.talk.new.peer) (side c.hear_one.new.peer) (side told.new.peer) c.args.limit c.in-Ok-Some.field-0 _ c.args.too_long.now
    (c.in-Ok-Full.ensures.full c.in-Ok-Full.field-0-is old f) (c.in-Ok-Full.ensures.goes c.in-Ok-Full.field-0-is) c.in-Ok-Some.ensures.heard c.in-Ok-Some.field-0-is told.ensures.left said)

pub returns-in-Ok-Some-clause-broken : goal.returns-in-Ok-Some-clause-broken
returns-in-Ok-Some-clause-broken g c =
    let side = shown g.P.Peer.left g.P.Peer.said in
    let told = c.tell_too_long in
    when-err told.result told.ensures.broken (λ said old f.
    broken-past _ _ _ _ old (side c.talk.new.peer) (side c.hear_one.new.peer) (side told.new.peer) c.args.limit c.in-Ok-Some.field-0 _ c.args.too_long.now
    (c.in-Ok-Full.ensures.full c.in-Ok-Full.field-0-is old f) (c.in-Ok-Full.ensures.goes c.in-Ok-Full.field-0-is) c.in-Ok-Some.ensures.heard c.in-Ok-Some.field-0-is told.ensures.left said)

pub returns-in-Err-hear_one-clause-broken : goal.returns-in-Err-hear_one-clause-broken
returns-in-Err-hear_one-clause-broken g c = λ old f.
    let side = shown g.P.Peer.left g.P.Peer.said in
    broken-unheard _ _ _ _ _ c.args.limit c.args.too_long.now
    (unheard-full _ _ _ _ old (side c.talk.new.peer) (side c.hear_one.new.peer) c.args.limit (c.in-Ok-Full.ensures.full c.in-Ok-Full.field-0-is old f) c.in-Err-hear_one.ensures.left_still
    c.in-Err-hear_one.ensures.unsaid)

pub returns-in-Err-hear_one-clause-unheard : goal.returns-in-Err-hear_one-clause-unheard
returns-in-Err-hear_one-clause-unheard g c = λ _ old f.
    let side = shown g.P.Peer.left g.P.Peer.said in
    unheard-full _ _ _ _ old (side c.talk.new.peer) (side c.hear_one.new.peer) c.args.limit (c.in-Ok-Full.ensures.full c.in-Ok-Full.field-0-is old f) c.in-Err-hear_one.ensures.left_still
    c.in-Err-hear_one.ensures.unsaid

pub returns-in-Err-clause-broken : goal.returns-in-Err-clause-broken
returns-in-Err-clause-broken g c = λ old f. broken-talk_on _ _ _ _ _ c.args.limit c.args.too_long.now (c.in-Err.ensures.broken old f)

pub returns-in-Err-clause-unheard : goal.returns-in-Err-clause-unheard
returns-in-Err-clause-unheard g c = λ is old f. unheard-talk _ _ _ _ _ _ (c.in-Err.ensures.unheard is old f)
