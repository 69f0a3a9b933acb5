use Rattle.std.proofs.Common.{◌≤◌, ◌∙◌, ap, List, length, ◌∷◌, min, arith}
use Rattle.std.proofs.lemmas.List.{length-take}
use Rattle.pending_list.specs.declared.keyed.Placed.{Placed}
use Rattle.pending_list.proofs.sized.put_first.Goals as goal

pub push_front_reserved-requires : goal.push_front_reserved-requires
push_front_reserved-requires c =
    let a = ap (λ (l : List Placed). length l) c.last_over-over.ensures.items ∙ length-take 2047 c.args.bucket.now.items in
    let b = c.last_over-over.new.bucket.ok.0 in
    let d = c.requires.room in
    let e = c.last_over-over.ensures.capacity in
    let low : min 2047 (length c.args.bucket.now.items) ≤ 2047 = grind arith in
    omega arith

pub returns-clause-items : goal.returns-clause-items
returns-clause-items c =
    c.push_front_reserved.ensures.items ∙ ap (λ (l : List Placed). c.args.placed ∷ l) c.last_over-over.ensures.items
