use Rattle.std.proofs.Common.{ap, ◌-◌, ℕ, arith}
use Rattle.peer_queue.proofs.Dues.{piece-is}
use Rattle.peer_queue.proofs.queue.SlotQueue.piece.Goals as goal

pub returns-clause-piece : goal.returns-clause-piece
returns-clause-piece c =
    let q = c.args.self.now.queue in
    let kept = c.kept.ensures in
    let least = c.requires.kept in
    let there = c.requires.there in
    let few = c.always.ensures.few in
    let reach = c.always.ensures.in_reach in
    record {
      there = omega arith;
      few = omega arith;
      part = piece-is c.args.origin c.args.first c.time_before.result (c.args.first - c.kept.result) c.args.count q (ap (λ (k : ℕ). c.args.first - k) kept) c.time_before.ensures;
    }
