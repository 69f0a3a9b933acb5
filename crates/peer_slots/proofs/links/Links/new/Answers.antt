use Rattle.std.proofs.Common.{◌∙◌, replicate}
use Rattle.peer_slots.specs.Links.{links_of}
use Rattle.peer_slots.proofs.Linked.{links-new}
use Rattle.peer_slots.proofs.links.Links.new.Goals as goal

pub returns : goal.returns
returns c =
    let others = c.in_ok-vec.ensures.items_if_clones_equal (λ y is. is) ∙ (λ i. replicate (c.from.ensures i) (c.unheard.ensures i)) in
    (λ i. links_of (record { others = others i; own = c.in_ok-with_capacity.ensures.items i })) ∙ links-new c.args.slots
