use Rattle.std.proofs.Common.{◌≡◌, ap, ◌-◌, ℕ, List, length, arith}
use Rattle.peer_packet.proofs.PutLaws.{Puts-then, Puts-of}
use Rattle.peer_handing.proofs.Queues.{bytes-of, head-is}
use Rattle.peer_handing.proofs.queue.put_queue.Goals as goal

pub put_commands-requires-clause-room : goal.put_commands-requires-clause-room
put_commands-requires-clause-room c =
    let q = c.args.queue.now.queue in
    let first = c.passed-first.result in
    let count : c.len.result - first ≡ length q.commands - first = ap (λ (n : ℕ). n - first) c.len.ensures in
    let bytes = ap (λ (l : List ℕ). length l) (bytes-of q c.args.from first (c.len.result - first) c.passed-first.ensures.passed c.passed-first.ensures.within count) in
    let place = c.put_queue_head-at.ensures.place in
    let same = c.put_queue_head-at.ensures.same in
    let room = c.requires in
    omega arith

pub returns : goal.returns
returns c =
    let q = c.args.queue.now.queue in
    let first = c.passed-first.result in
    let count : c.len.result - first ≡ length q.commands - first = ap (λ (n : ℕ). n - first) c.len.ensures in
    let bytes = bytes-of q c.args.from first (c.len.result - first) c.passed-first.ensures.passed c.passed-first.ensures.within count in
    let head = head-is q c.args.from first (c.len.result - first) c.late.result c.time_before.result c.passed-first.ensures.passed c.passed-first.ensures.within count c.late.ensures c.time_before.ensures in
    Puts-then (Puts-of head c.put_queue_head-at.ensures) (Puts-of bytes c.put_commands.ensures)
