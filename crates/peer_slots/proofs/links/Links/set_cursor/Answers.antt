use Rattle.std.proofs.Common.{◌<◌, ap, ◌∙◌, ℕ, length, arith}
use Rattle.peer_slots.specs.Links.{links_of, with_cursor}
use Rattle.peer_slots.proofs.Linked.{links-cursor}
use Rattle.peer_slots.proofs.links.Links.set_cursor.Goals as goal

pub returns : goal.returns
returns c =
    let others = c.self.inside.others.items in
    let own = c.self.inside.own.items in
    let there = rw (← c.self.view_is) at c.requires in
    let at = c.from.ensures in
    let within : c.from.result < length others = omega (arith, there, at) in
    rw (← c.self.view_is)
    (links-cursor others own c.from.result c.index_mut.result.now c.args.cursor within c.index_mut.ensures.value
    ∙ ap (λ (n : ℕ). with_cursor n c.args.cursor (links_of (record { others = others; own = own }))) at)
