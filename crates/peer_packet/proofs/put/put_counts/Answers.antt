use Rattle.std.proofs.Common.{arith, sym}
use Rattle.peer_packet.specs.Packet.{counts_bytes}
use Rattle.peer_packet.proofs.CountLaws.{counts_more, counts_room}
use Rattle.peer_packet.proofs.PutLaws.{Puts-then, Puts-of, Puts-none}
use Rattle.peer_packet.proofs.put.put_counts.Goals as goal

pub loop-count-init : goal.loop-count-init
unfolding counts_bytes
loop-count-init c = Puts-none _ _

pub put_count-place-requires : goal.put_count-place-requires
put_count-place-requires c =
    let room = counts_room c.args.have.now c.loop-count.count-index 0 c.loop-count-test.true in
    let place = c.loop-count.invariant.place in
    let same = c.loop-count.invariant.same in
    let long = c.requires in
    omega (arith, room, place, same, long)

pub loop-count-preserved : goal.loop-count-preserved
loop-count-preserved c = Puts-of (sym (counts_more c.args.have.now c.loop-count.count-index 0 c.loop-count-test.true)) (Puts-then c.loop-count.invariant c.put_count-place.ensures)
