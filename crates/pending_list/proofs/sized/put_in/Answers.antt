use Rattle.std.proofs.Common.{◌≤◌, ◌∙◌, ap, List, length, min, arith}
use Rattle.std.proofs.lemmas.List.{length-take}
use Rattle.std.specs.List.{insert}
use Rattle.pending_list.specs.declared.keyed.Placed.{Placed}
use Rattle.pending_list.proofs.Cut.{insert-popped}
use Rattle.pending_list.proofs.sized.put_in.Goals as goal

pub put-requires-clause-within : goal.put-requires-clause-within
put-requires-clause-within c =
    let a = ap (λ (l : List Placed). length l) c.last_over-over.ensures.items ∙ length-take 2047 c.args.bucket.now.items in
    let b = c.last_over-over.new.bucket.ok.0 in
    let d = c.args.bucket.now.ok.0 in
    let e = c.requires.place in
    let f = c.requires.within in
    grind arith

pub put-requires-clause-room : goal.put-requires-clause-room
put-requires-clause-room c =
    let a = ap (λ (l : List Placed). length l) c.last_over-over.ensures.items ∙ length-take 2047 c.args.bucket.now.items in
    let b = c.last_over-over.new.bucket.ok.0 in
    let d = c.requires.room in
    let e = c.last_over-over.ensures.capacity in
    let low : min 2047 (length c.args.bucket.now.items) ≤ 2047 = grind arith in
    omega arith

pub returns-clause-items : goal.returns-clause-items
returns-clause-items c =
    let within : c.args.place ≤ length c.args.bucket.now.items = (let d = c.args.bucket.now.ok.0 in let f = c.requires.within in omega arith) in
    let low : c.args.place ≤ 2047 = (let e = c.requires.place in omega arith) in
    c.put.ensures.items
    ∙ ap (λ (l : List Placed). insert l c.args.place c.args.placed) c.last_over-over.ensures.items
    ∙ (insert-popped 2047 c.args.place c.args.bucket.now.items c.args.placed low within).0

pub returns-clause-over : goal.returns-clause-over
returns-clause-over c =
    let within : c.args.place ≤ length c.args.bucket.now.items = (let d = c.args.bucket.now.ok.0 in let f = c.requires.within in omega arith) in
    let low : c.args.place ≤ 2047 = (let e = c.requires.place in omega arith) in
    c.last_over-over.ensures.over ∙ (insert-popped 2047 c.args.place c.args.bucket.now.items c.args.placed low within).1
