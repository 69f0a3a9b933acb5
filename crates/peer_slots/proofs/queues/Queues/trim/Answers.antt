use Rattle.std.proofs.Common.{◌∙◌, ap, map, length, List, arith}
use Rattle.std.proofs.lemmas.List.{length-map, with_items_is}
use Rattle.peer_queue.specs.Room.{QueueInRoom}
use Rattle.peer_slots.specs.Queues.{queues_of, trimmed_in_room}
use Rattle.peer_slots.proofs.Queued.{queues-trim, are-trim}
use Rattle.peer_slots.proofs.queues.Queues.trim.Goals as goal

pub invariant_of-self : goal.invariant_of-self
invariant_of-self c =
    let vec = c.self.inside.list in
    let news = c.trim_each.ensures ∙ ap (map (trimmed_in_room c.args.bound)) c.as_mut_slice.ensures.value in
    let long = vec.ok.0 in
    let count = ap (λ (l : List QueueInRoom). length l) news ∙ length-map vec.items (trimmed_in_room c.args.bound) in
    are-trim c.args.bound c.self.inside.room vec.items _ (with_items_is vec c.trim_each.new.queues (omega (arith, long, count)) ∙ news) c.self.invariant

pub returns : goal.returns
returns c =
    let vec = c.self.inside.list in
    let news = c.trim_each.ensures ∙ ap (map (trimmed_in_room c.args.bound)) c.as_mut_slice.ensures.value in
    let long = vec.ok.0 in
    let count = ap (λ (l : List QueueInRoom). length l) news ∙ length-map vec.items (trimmed_in_room c.args.bound) in
    let items = with_items_is vec c.trim_each.new.queues (omega (arith, long, count)) ∙ news in
    rw (← c.self.view_is)
    ((λ i. queues_of (record { list = items i; room = c.self.inside.room })) ∙ queues-trim c.args.bound c.self.inside.room vec.items)
