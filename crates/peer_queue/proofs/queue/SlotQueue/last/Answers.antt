use Rattle.std.proofs.Common.{ap, ◌∙◌, ◌≡◌, ◌<◌, ◌-◌, ℕ, length, get_or, refl, arith}
use Rattle.peer_queue.specs.declared.sent.SentBytes.{SentBytes}
use Rattle.peer_queue.proofs.Rooms.{last-at, last-nil}
use Rattle.peer_queue.proofs.queue.SlotQueue.last.Goals as goal

pub returns-in-Some : goal.returns-in-Some
returns-in-Some c =
    let q = c.self.inside.commands in
    let long = q.ok.0 in
    let some = c.in-Some.ensures.variant.0 refl in
    let there : 0 < length q.items = omega arith in
    ap (λ (x : SentBytes). x.time) c.in-Some.ensures.lookup
    ∙ ap (λ (n : ℕ). (get_or q.items (n - 1) c.in-Some.x.now).time) long
    ∙ rw (← c.self.view_is) (last-at c.self.inside.gone q.items c.in-Some.x.now there)

pub returns-in-None : goal.returns-in-None
returns-in-None c =
    let q = c.self.inside.commands in
    let long = q.ok.0 in
    let none : length q.items ≡ 0 = grind (arith, c.in-None.ensures.variant.1) in
    rw (← c.self.view_is) (last-nil c.self.inside.gone q.items none)
