use Rattle.std.proofs.Common.{◌≡◌, ap, ◌-◌, ℕ, List, length, arith}
use Rattle.peer_handing.proofs.Queues.{bytes-of}
use Rattle.peer_handing.proofs.queue.queue_size.Goals as goal

pub returns-clause-size : goal.returns-clause-size
returns-clause-size c =
    let q = c.args.queue.now.queue in
    let first = c.passed-first.result in
    let count : c.len.result - first ≡ length q.commands - first = ap (λ (n : ℕ). n - first) c.len.ensures in
    let bytes = ap (λ (l : List ℕ). length l) (bytes-of q c.args.from first (c.len.result - first) c.passed-first.ensures.passed c.passed-first.ensures.within count) in
    let size = c.commands_size.ensures.size in
    omega arith
