use Rattle.std.proofs.Common.{◌∙◌, refl, ap, sym, subst, arith}
use Rattle.link_ring.specs.declared.receive.LinkReceive.{LinkReceive}
use Rattle.link_ring.specs.Ends.{waiting_of}
use Rattle.copy_workers.specs.Messages.{commands_in}
use Rattle.copy_workers.proofs.Along.{up_to-start, up_to-same, up_to-more, up_to-length}
use Rattle.race_hall.specs.Finish.{CanTake, delivered}
use Rattle.race_hall.proofs.Pieces.{piece-can, piece-goes, piece-ends}
use Rattle.race_hall.proofs.finish.take_links.Goals as goal

pub loop-link-init : goal.loop-link-init
loop-link-init g c = record { others = up_to-start _ _; can = c.requires; state = refl }

pub take_left-requires : goal.take_left-requires
take_left-requires g c =
    let same = up_to-same (λ a b. Unit {0}) c.loop-link.link-index c.args.links.now c.loop-link.links c.link-item.result c.loop-link.invariant.others in
    let long = up_to-length (λ a b. Unit {0}) c.loop-link.link-index c.args.links.now c.loop-link.links c.loop-link.invariant.others in
    subst (λ (r : LinkReceive). CanTake c.loop-link.mirror (commands_in (waiting_of r))) same
    (piece-can (λ (r : LinkReceive). commands_in (waiting_of r)) c.loop-link.mirror c.args.links.now c.loop-link.link-index c.link-item.result (omega arith) c.loop-link.invariant.can)

pub loop-link-preserved : goal.loop-link-preserved
loop-link-preserved g c =
    let same = up_to-same (λ a b. Unit {0}) c.loop-link.link-index c.args.links.now c.loop-link.links c.link-item.result c.loop-link.invariant.others in
    let long = up_to-length (λ a b. Unit {0}) c.loop-link.link-index c.args.links.now c.loop-link.links c.loop-link.invariant.others in
    let goes = piece-goes (λ (r : LinkReceive). commands_in (waiting_of r)) c.loop-link.mirror c.take_left.new.mirror c.args.links.now c.loop-link.link-index c.link-item.result (omega arith)
    (c.take_left.ensures ∙ ap (λ (r : LinkReceive). delivered c.loop-link.mirror (commands_in (waiting_of r))) (sym same)) c.loop-link.invariant.can in
    record {
      others = up_to-more (λ a b. Unit {0}) c.loop-link.link-index c.args.links.now c.loop-link.links c.link-item.result c.take_left.new.link (omega arith) tt c.loop-link.invariant.others;
      can = goes.can;
      state = goes.state ∙ c.loop-link.invariant.state;
    }

pub returns : goal.returns
returns g c =
    let long = up_to-length (λ a b. Unit {0}) c.loop-link.link-index c.args.links.now c.loop-link.links c.loop-link.invariant.others in
    piece-ends (λ (r : LinkReceive). commands_in (waiting_of r)) c.loop-link.mirror c.args.links.now
    c.loop-link.link-index (let e = c.loop-link-test.false in omega arith) ∙ c.loop-link.invariant.state
