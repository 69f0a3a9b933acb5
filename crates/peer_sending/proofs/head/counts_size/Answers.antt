use Rattle.std.proofs.Common.{arith, ap, length, length-append, get_or, take, ℕ, List, refl}
use Rattle.peer_packet.specs.Packet.{counts_bytes, count_bytes}
use Rattle.peer_packet.proofs.CountLaws.{counts_more}
use Rattle.peer_sending.proofs.Counts.{count-most}
use Rattle.peer_sending.proofs.head.counts_size.Goals as goal

pub loop-count-init : goal.loop-count-init
unfolding counts_bytes
loop-count-init c = record { size = refl; most = omega arith }

pub loop-count-preserved : goal.loop-count-preserved
loop-count-preserved c =
    let more = ap (λ (t : List ℕ). length t) (counts_more c.args.have.now c.loop-count.count-index 0 c.loop-count-test.true) in
    let so_far = c.loop-count.invariant.size in
    let one = c.count_size-size.ensures in
    let few = count-most (get_or c.args.have.now c.loop-count.count-index 0) in
    let most = c.loop-count.invariant.most in
    let long = length-append (counts_bytes (take c.loop-count.count-index c.args.have.now)) (count_bytes (get_or c.args.have.now c.loop-count.count-index 0)) in
    record {
      size = omega (arith, more, so_far, one, long);
      most = omega (arith, one, few, most);
    }
