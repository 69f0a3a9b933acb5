use Rattle.std.proofs.Common.{◌≡◌, ◌-◌, ◌∙◌, sym, ap, ℕ, take, arith}
use Rattle.std.proofs.lemmas.List.{take_all}
use Rattle.std.proofs.lemmas.Option.{slice_get_past, slice_get-get_or}
use Rattle.std.specs.Prelude.{slice_get}
use Rattle.pending_list.specs.declared.keyed.Placed.{Placed}
use Rattle.pending_list.proofs.sized.last_over.Goals as goal
use Rattle.std.specs.VecDeque.{deque_len}

pub returns-then-len-lt-BUCKET-clause-items : goal.returns-then-len-lt-BUCKET-clause-items
returns-then-len-lt-BUCKET-clause-items c = sym (take_all 2047 c.args.bucket.now.items (let a = c.args.bucket.now.ok.0 in let b = c.len.ensures in let d = c.if-len-lt-BUCKET.true in omega arith))

pub returns-then-len-lt-BUCKET-clause-over : goal.returns-then-len-lt-BUCKET-clause-over
returns-then-len-lt-BUCKET-clause-over c = sym (slice_get_past c.args.bucket.now.items 2047 (let a = c.args.bucket.now.ok.0 in let b = c.len.ensures in let d = c.if-len-lt-BUCKET.true in omega arith))

nobody : Placed
nobody = record { time = 0; slot = 0 }

pub returns-clause-items : goal.returns-clause-items
returns-clause-items c =
    let last : deque_len c.args.bucket.now - 1 ≡ 2047 = (let b = c.len.ensures in let d = c.if-len-lt-BUCKET.false in let e = c.requires in omega arith) in
    c.pop_back.ensures.rest ∙ ap (λ (n : ℕ). take n c.args.bucket.now.items) last

pub returns-clause-over : goal.returns-clause-over
returns-clause-over c =
    let last : deque_len c.args.bucket.now - 1 ≡ 2047 = (let b = c.len.ensures in let d = c.if-len-lt-BUCKET.false in let e = c.requires in omega arith) in
    let long = c.args.bucket.now.ok.0 in
    c.pop_back.ensures.value nobody (omega arith)
    ∙ sym (slice_get-get_or c.args.bucket.now.items (deque_len c.args.bucket.now - 1) nobody (omega arith))
    ∙ ap (λ (n : ℕ). slice_get c.args.bucket.now.items n) last
