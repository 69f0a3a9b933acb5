use Rattle.std.proofs.Common.{ap, sym, ◌∙◌, ℕ, Option}
use Rattle.peer_calls.specs.Hearing.{is_differing}
use Rattle.peer_slots.specs.declared.other.Other.{Other}
use Rattle.peer_slots.specs.Links.{LinkLists, links_of}
use Rattle.peer_slots.proofs.Linked.{links-head}
use Rattle.peer_slots.proofs.links.Links.hear_head.Goals as goal

pub returns : goal.returns
returns c =
    let others = c.self.inside.others.items in
    let own = c.self.inside.own.items in
    let there = rw (← c.self.view_is) at c.requires.from in
    let marked = ap (λ (l : LinkLists). is_differing c.mark.result (links_of l).marks) (sym c.self.view_is) in
    let marks = (links_of (record { others = others; own = own })).marks in
    let is = c.is_differing-is_differing.ensures ∙ marked ∙ ap (λ (m : Option (ℕ × ℕ)). is_differing m marks) c.mark.ensures in
    let h = c.hear.ensures in
    rw (← c.self.view_is)
    (links-head c.args.p.now c.args.clock others own c.from-2.result c.is_differing-is_differing.result c.index_mut.result.now c.hear.new.self
    (c.from-2.ensures ∙ c.from.ensures) there c.index_mut.ensures.value is
    (record {
      known = h.known;
      newest = ap (λ (x : Other). x.newest) h.rest;
      cursor = ap (λ (x : Other). x.cursor) h.rest;
      mark = ap (λ (x : Other). x.mark) h.rest;
      differs = ap (λ (x : Other). x.differs) h.rest;
    }))
