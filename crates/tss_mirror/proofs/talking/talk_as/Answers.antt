use Rattle.std.proofs.Common.{ℕ, List, inl, inr, sym, subst, arith}
use Rattle.line_talk.specs.Talk.{HeardFront, IsOpening, IsTorn}
use Rattle.tss_mirror.specs.Run.{side, IsEndless}
use Rattle.tss_mirror.specs.declared.talking.TheConstants.{LONGEST_INPUT}
use Rattle.tss_mirror.proofs.RunLaws.{ends-from, ends-unheard, heads, heads-not, torn-not}
use Rattle.tss_mirror.proofs.talking.talk_as.Goals as goal

pub returns-in-Err : goal.returns-in-Err
returns-in-Err g c =
    let seen = side g.P.Peer.left g.P.Peer.said g.P.Peer.faults in
    inl (ends-unheard _ _ _ _ _ (seen c.args.peer.now) (seen c.hear_front.new.peer) c.in-Err.ensures.unheard (λ bytes is. torn-not bytes is) c.in-Err.ensures.rose)

pub returns-then-front : goal.returns-then-front
returns-then-front g c =
    let seen = side g.P.Peer.left g.P.Peer.said g.P.Peer.faults in
    let bytes = c.as_slice-bytes.result.now in
    let same = sym c.as_slice-bytes.ensures.value in
    let heard = subst (λ (l : List ℕ). HeardFront (seen c.args.peer.now).shown (seen c.hear_front.new.peer).shown l) same c.in-Ok.ensures.heard in
    let torn = subst (λ (l : List ℕ). IsTorn l) same (c.in-Ok.ensures.torn c.if-front.true) in
    let fits = c.as_slice-bytes.ensures.fits in
    inl (ends-from _ _ _ _ _ _ _ (seen c.args.peer.now) (seen c.close_with.new.peer) c.close_with.result c.new-mirror.ensures
    (λ all is endless. torn-not bytes torn (subst (λ (l : List ℕ). IsEndless l) is endless))
    (c.close_with.ensures (seen c.args.peer.now) LONGEST_INPUT heard c.in-Ok.ensures.steady (c.in-Ok.ensures.end c.if-front.true) (omega (arith, fits))))

pub returns-then-eq : goal.returns-then-eq
returns-then-eq g c =
    let seen = side g.P.Peer.left g.P.Peer.said g.P.Peer.faults in
    let bytes = c.as_slice-bytes.result.now in
    let same = sym c.as_slice-bytes.ensures.value in
    let heard = subst (λ (l : List ℕ). HeardFront (seen c.args.peer.now).shown (seen c.hear_front.new.peer).shown l) same c.in-Ok.ensures.heard in
    inr (ends-from _ _ _ _ _ _ _ (seen c.args.peer.now) (seen c.talk_with.new.peer) c.talk_with.result c.new-mirror-then-eq.ensures (λ all is. heads bytes all c.if-eq.ensures is)
    (c.talk_with.ensures (seen c.args.peer.now) heard c.in-Ok.ensures.steady))

pub returns : goal.returns
returns g c =
    let seen = side g.P.Peer.left g.P.Peer.said g.P.Peer.faults in
    let bytes = c.as_slice-bytes.result.now in
    let same = sym c.as_slice-bytes.ensures.value in
    let heard = subst (λ (l : List ℕ). HeardFront (seen c.args.peer.now).shown (seen c.hear_front.new.peer).shown l) same c.in-Ok.ensures.heard in
    let opening = subst (λ (l : List ℕ). IsOpening l) same (c.in-Ok.ensures.opening c.if-front.false) in
    inl (ends-from _ _ _ _ _ _ _ (seen c.args.peer.now) (seen c.talk_with-2.new.peer) c.talk_with-2.result c.new-mirror-2.ensures
    (λ all is endless. heads-not bytes all c.if-eq.ensures opening is endless)
    (c.talk_with-2.ensures (seen c.args.peer.now) heard c.in-Ok.ensures.steady))
