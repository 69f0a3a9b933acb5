use Rattle.std.proofs.Common.{◌<◌, ◌-◌, ap, ◌∙◌, ℕ, length, get_or, Some, refl, arith}
use Rattle.peer_model.specs.declared.mark.Mark.{Mark}
use Rattle.peer_slots.proofs.Linked.{newest-none, newest-at}
use Rattle.peer_slots.proofs.marking.newest_of.Goals as goal

pub returns-in-Some : goal.returns-in-Some
returns-in-Some c =
    let q = c.args.own.now in
    let long = q.ok.0 in
    let some = c.in-Some.ensures.variant.0 refl in
    let there : 0 < length q.items = omega arith in
    let read = c.in-Some.ensures.lookup ∙ ap (λ (n : ℕ). get_or q.items (n - 1) c.in-Some.mark.now) long in
    ap (λ (x : Mark). Some (x.tick, x.sum)) read ∙ newest-at q.items c.in-Some.mark.now there

pub returns-in-None : goal.returns-in-None
returns-in-None c = newest-none c.args.own.now.items c.in-None.ensures.item.3
