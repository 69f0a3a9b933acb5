use Rattle.std.proofs.Common.{ap, sym, ◌∙◌, ℕ, Bool, cond, map, length, List, [], ◌∷◌, ◌++◌, Some, None, arith}
use Rattle.std.proofs.lemmas.List.{length-map, with_items_is}
use Rattle.game_trait.specs.Count.{times}
use Rattle.peer_model.specs.Marks.{if_differs, last_64, marked}
use Rattle.peer_model.specs.declared.mark.Mark.{Mark}
use Rattle.peer_slots.specs.declared.other.Other.{Other}
use Rattle.peer_slots.specs.Links.{links_of, differing, told_mark}
use Rattle.peer_slots.proofs.Linked.{links-marks, links-differing}
use Rattle.peer_slots.proofs.links.Links.mark.Goals as goal

pub returns-clause-count : goal.returns-clause-count
returns-clause-count c =
    let others = c.self.inside.others.items in
    let own = c.self.inside.own.items in
    let x : Mark = record { tick = c.args.tick; sum = c.args.sum } in
    let unmarked = sym c.is_marked.ensures ∙ c.if-is_marked.false in
    let count = c.count_differing-count.ensures ∙ ap (times (λ (other : Other). if_differs x other.mark)) c.as_slice.ensures.value ∙ links-differing x others own in
    rw (← c.self.view_is)
    (ap (λ (n : ℕ). Some n) count
    ∙ ap (λ (b : Bool). cond b None (Some (differing x (links_of (record { others = others; own = own }))))) (sym unmarked))

pub returns-clause-marks : goal.returns-clause-marks
returns-clause-marks c =
    let others = c.self.inside.others.items in
    let own = c.self.inside.own.items in
    let x : Mark = record { tick = c.args.tick; sum = c.args.sum } in
    let unmarked = sym c.is_marked.ensures ∙ c.if-is_marked.false in
    let told = c.tell_each.ensures ∙ ap (map (told_mark x)) c.as_mut_slice.ensures.value in
    let vec = c.self.inside.others in
    let long = vec.ok.0 in
    let count = ap (λ (l : List Other). length l) told ∙ length-map others (told_mark x) in
    let items = with_items_is vec c.tell_each.new.others (omega (arith, long, count)) ∙ told in
    let marks = last_64 (own ++ x ∷ []) in
    let l = links_of (record { others = others; own = own }) in
    rw (← c.self.view_is)
    ((λ i. links_of (record { others = items i; own = c.keep.ensures.items i })) ∙ links-marks x others own marks
    ∙ ap (λ (b : Bool). cond b l (record l { marks = marked x l.marks })) (sym unmarked))
