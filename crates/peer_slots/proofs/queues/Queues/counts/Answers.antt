use Rattle.std.proofs.Common.{◌∙◌, ap, map}
use Rattle.peer_model.specs.Queue.{have_of}
use Rattle.peer_queue.specs.Room.{QueueInRoom}
use Rattle.peer_slots.proofs.Queued.{queues-counts}
use Rattle.peer_slots.proofs.queues.Queues.counts.Goals as goal

pub returns-clause-counts : goal.returns-clause-counts
returns-clause-counts c =
    let inside = c.self.inside in
    rw (← c.self.view_is)
    (c.count_each.ensures.counts ∙ ap (map (λ (q : QueueInRoom). have_of q.queue)) c.as_slice.ensures.value ∙ queues-counts inside.list.items inside.room)
