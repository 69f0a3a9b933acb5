use Rattle.std.proofs.Common.{ap, ◌∙◌, refl}
use Rattle.peer_model.specs.Queue.{trimmed}
use Rattle.peer_queue.specs.Room.{QueueInRoom}
use Rattle.peer_queue.proofs.Rooms.{trimmed-step, trimmed-none}
use Rattle.peer_queue.proofs.queue.SlotQueue.trim.Goals as goal

pub loop-time-init : goal.loop-time-init
loop-time-init c = (refl, refl)

pub loop-time-preserved : goal.loop-time-preserved
loop-time-preserved c =
    let some = c.in-Some.ensures.some in
    let h = c.loop-time.invariant in (
      ap (λ (s : QueueInRoom). trimmed c.args.bound s.queue) c.forget_first.ensures ∙ trimmed-step c.args.bound c.in-Some.time c.loop-time.self.queue some.0 some.1 some.2 ∙ h.0,
      ap (λ (s : QueueInRoom). s.room) c.forget_first.ensures ∙ h.1,
    )

pub returns : goal.returns
returns c =
    let h = c.loop-time.invariant in
    let at = trimmed-none c.args.bound c.loop-time.self.queue c.in_default.ensures.none ∙ h.0 in
    λ i. record { queue = at i; room = h.1 i }
