use Rattle.std.proofs.Common.{arith, ◌∙◌, sym, ap, subst, ◌≤◌, ◌+◌, ◌*◌, ℕ}
use Rattle.peer_packet.proofs.CountLaws.{mask_none, mask_fits, mask_after, bit_most}
use Rattle.peer_packet.proofs.put.mask_of.Goals as goal

pub loop-left-init : goal.loop-left-init
loop-left-init c = record { mask = mask_none c.args.have.now; within = omega arith }

pub overflow_mul-mask : goal.overflow_mul-mask
overflow_mul-mask c =
    let room = mask_fits c.args.have.now c.loop-left.left c.loop-left.mask c.loop-left-test.true c.loop-left.invariant.within c.requires c.loop-left.invariant.mask in
    omega (arith, room)

pub overflow_add-mask : goal.overflow_add-mask
overflow_add-mask c =
    let room = mask_fits c.args.have.now c.loop-left.left c.loop-left.mask c.loop-left-test.true c.loop-left.invariant.within c.requires c.loop-left.invariant.mask in
    let bit : c.bit_of.result ≤ 1 = subst (λ (n : ℕ). n ≤ 1) (sym c.bit_of.ensures) (bit_most _) in
    omega (arith, room, bit)

pub loop-left-preserved : goal.loop-left-preserved
loop-left-preserved c =
    let within = c.loop-left.invariant.within in
    record {
      mask = ap (λ (b : ℕ). 2 * c.loop-left.mask + b) c.bit_of.ensures ∙ mask_after c.args.have.now c.loop-left.left c.loop-left.mask 0 c.loop-left-test.true within c.loop-left.invariant.mask;
      within = omega (arith, within);
    }
