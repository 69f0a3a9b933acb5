use Rattle.std.proofs.Common.{ap, arith, length, ℕ, List}
use Rattle.peer_packet.proofs.FillLaws.{no_sent}
use Rattle.peer_handing.proofs.Sents.{size-on}
use Rattle.peer_handing.proofs.commands.commands_size.Goals as goal

pub loop-place-preserved : goal.loop-place-preserved
loop-place-preserved g c =
    let short = c.payload.ensures.short in
    let most = c.loop-place.invariant.most in
    record {
      size = size-on (g.C.Commands.commands c.args.commands.now) c.args.from c.args.count c.loop-place.place c.loop-place.size no_sent (length c.payload.result.now) c.loop-place-test.true c.requires.there
          c.loop-place.invariant.size (ap (λ (l : List ℕ). length l) (c.payload.ensures.bytes no_sent));
      most = omega arith;
    }
