use Rattle.std.proofs.Common.{◌∙◌, sym, arith}
use Rattle.trailing_copy.proofs.Lists.{copied-down}
use Rattle.trailing_copy.proofs.worlds.copy_down.Goals as goal

pub returns-clause-worlds : goal.returns-clause-worlds
returns-clause-worlds g c =
    λ d. copied-down c.args.worlds.now.items c.split_at_mut-ahead.result.0.now
    c.split_at_mut-ahead.result.1.now c.args.worlds.now.len c.args.c
    c.set_from.new.self c.index-behind-0.result d
    (let ok = c.args.worlds.now.ok.0 in omega arith) (let there = c.requires in omega arith)
    (rw c.deref_mut.ensures.value at c.split_at_mut-ahead.ensures.front)
    (rw c.deref_mut.ensures.value at c.split_at_mut-ahead.ensures.back)
    c.index-behind-0.is
    (c.set_from.ensures ∙ sym c.index-behind-0.is)
