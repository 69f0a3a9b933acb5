use Rattle.std.proofs.Common.{ap, arith, length, ℕ, List, sym}
use Rattle.peer_packet.specs.Packet.{sent_bytes}
use Rattle.peer_packet.proofs.FillLaws.{sents_more, sents_room, sent_is, no_sent}
use Rattle.peer_packet.proofs.PutLaws.{Puts-then, Puts-of}
use Rattle.peer_handing.proofs.commands.put_commands.Goals as goal

pub put_sent-behind-requires-clause-room : goal.put_sent-behind-requires-clause-room
put_sent-behind-requires-clause-room g c =
    let room = sents_room (g.C.Commands.commands c.args.commands.now) c.args.from c.args.count c.loop-place.place no_sent c.loop-place-test.true c.requires.there in
    let size = ap (λ (l : List ℕ). length l) (c.payload.ensures.bytes no_sent) in
    let place = c.loop-place.invariant.place in
    let same = c.loop-place.invariant.same in
    let long = c.requires.room in
    omega (arith, room, size, place, same, long)

pub loop-place-preserved : goal.loop-place-preserved
loop-place-preserved g c =
    Puts-of (sym (sents_more (g.C.Commands.commands c.args.commands.now) c.args.from c.args.count c.loop-place.place no_sent c.loop-place-test.true c.requires.there))
    (Puts-then c.loop-place.invariant (Puts-of (ap sent_bytes (sent_is c.time-time.result c.payload.result.now _ (c.time-time.ensures no_sent) (c.payload.ensures.bytes no_sent))) c.put_sent-behind.ensures))
