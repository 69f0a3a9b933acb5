use Rattle.std.proofs.Common.{refl, sym, ap, subst, ◌∙◌, ◌++◌, List, ℕ, Option}
use Rattle.std.specs.Prelude.{option_to_list}
use Rattle.line_talk.specs.Talk.{shown, HeardFront, IsTorn}
use Rattle.line_talk.proofs.FrontLaws.{front-none, front-more, front-end, torn-none, torn-more}
use Rattle.line_talk.proofs.front.hear_front.Goals as goal

pub loop-peer-init : goal.loop-peer-init
loop-peer-init g c =
    let none = c.new-bytes.ensures in
    let side = shown g.P.Peer.left g.P.Peer.said in
    record {
      torn = subst (λ (l : List ℕ). IsTorn l) (sym none) torn-none;
      heard = subst (λ (l : List ℕ). HeardFront (side c.args.peer.now) (side c.args.peer.now) l) (sym none) (front-none _);
      steady = refl;
    }

pub returns-in-Ok-None-clause-heard : goal.returns-in-Ok-None-clause-heard
returns-in-Ok-None-clause-heard g c =
    let side = shown g.P.Peer.left g.P.Peer.said in
    front-end (side c.args.peer.now) (side c.loop-peer.peer) (side c.hear_one.new.peer) c.loop-peer.bytes.items c.in-Ok-None.field-0 c.in-Ok-None.field-0-is c.loop-peer.invariant.torn
    c.loop-peer.invariant.heard c.in-Ok-None.ensures.heard

pub returns-then-byte-eq10-clause-heard : goal.returns-then-byte-eq10-clause-heard
returns-then-byte-eq10-clause-heard g c =
    let side = shown g.P.Peer.left g.P.Peer.said in
    let one = ap (λ (o : Option ℕ). c.loop-peer.bytes.items ++ option_to_list o) c.in-Ok-Some.field-0-is ∙ sym c.push.ensures.items in
    subst (λ (l : List ℕ). HeardFront (side c.args.peer.now) (side c.hear_one.new.peer) l) one
    (front-more (side c.args.peer.now) (side c.loop-peer.peer) (side c.hear_one.new.peer) c.loop-peer.bytes.items c.in-Ok-Some.field-0 c.loop-peer.invariant.torn c.loop-peer.invariant.heard
    c.in-Ok-Some.ensures.heard)

pub loop-peer-preserved : goal.loop-peer-preserved
loop-peer-preserved g c =
    let side = shown g.P.Peer.left g.P.Peer.said in
    let one = ap (λ (o : Option ℕ). c.loop-peer.bytes.items ++ option_to_list o) c.in-Ok-Some.field-0-is ∙ sym c.push.ensures.items in
    record {
      torn = subst (λ (l : List ℕ). IsTorn l) (sym c.push.ensures.items) (torn-more _ _ c.loop-peer.invariant.torn c.if-byte-eq10.false);
      heard = subst (λ (l : List ℕ). HeardFront (side c.args.peer.now) (side c.hear_one.new.peer) l) one
          (front-more (side c.args.peer.now) (side c.loop-peer.peer) (side c.hear_one.new.peer) c.loop-peer.bytes.items c.in-Ok-Some.field-0 c.loop-peer.invariant.torn c.loop-peer.invariant.heard
          c.in-Ok-Some.ensures.heard);
      steady = c.in-Ok-Some.ensures.steady ∙ c.loop-peer.invariant.steady;
    }
