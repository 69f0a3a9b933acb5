use Rattle.std.proofs.Common.{◌≡◌, ◌+◌, ◌-◌, ◌∙◌, subst, arith, ℕ}
use Rattle.std.proofs.lemmas.List.{length-set}
use Rattle.trailing_copy.proofs.Ahead.{falls-between}
use Rattle.trailing_copy.proofs.Lists.{one-more}
use Rattle.trailing_copy.proofs.Fresh.{Made, made-none, made-next}
use Rattle.trailing_copy.proofs.worlds.make_worlds.Goals as goal

pub loop-c-init : goal.loop-c-init
loop-c-init g c =
    let ok = c.args.worlds.now.ok.0 in
    let many = c.requires.as_many_worlds in
    record {
      upto = omega arith;
      len = search (arith);
      as_many_worlds = omega arith;
      made =
          made-none g.G.Game.rules c.args.run.now c.args.stale c.args.worlds.now.items;
    }

pub execute_items-requires-clause-order : goal.execute_items-requires-clause-order
execute_items-requires-clause-order g c =
    let upto = c.loop-c.invariant.upto in
    let some = c.loop-c-test.true in
    let there = c.requires.there in
    rw (c.end.ensures, c.end-in-loop-c.ensures)
    (falls-between c.args.run.now.ends (c.loop-c.c - 1) (c.loop-c.c - 1 + 1) c.always.ensures.falls
    (omega arith) (omega arith))

pub execute_items-requires-clause-there : goal.execute_items-requires-clause-there
execute_items-requires-clause-there g c =
    let upto = c.loop-c.invariant.upto in
    let some = c.loop-c-test.true in
    let there = c.requires.there in
    let first = c.always.ensures.first in
    let most =
    falls-between c.args.run.now.ends 0 (c.loop-c.c - 1) c.always.ensures.falls (omega arith)
    (omega arith) in
    omega arith

pub loop-c-preserved : goal.loop-c-preserved
loop-c-preserved g c =
    let upto = c.loop-c.invariant.upto in
    let some = c.loop-c-test.true in
    let there = c.requires.there in
    let made =
    subst (λ (n : ℕ). Made g.G.Game.rules c.args.run.now c.args.stale c.args.worlds.now.items n
    c.loop-c.worlds.items)
    (one-more c.loop-c.c (omega arith)) c.loop-c.invariant.made in
    let down_many = c.copy_down.ensures.len in
    let ok = c.loop-c.worlds.ok.0 in
    let down_ok = c.copy_down.new.worlds.ok.0 in
    let long =
    length-set c.copy_down.new.worlds.items (c.loop-c.c - 1) c.execute_items.new.world in
    let many = c.loop-c.invariant.as_many_worlds in
    record {
      upto = omega arith;
      len = c.copy_down.ensures.len ∙ c.loop-c.invariant.len;
      as_many_worlds = omega arith;
      made =
          made-next g.G.Game.rules c.args.run.now c.args.stale (c.loop-c.c - 1)
          c.args.worlds.now.items c.loop-c.worlds.items c.copy_down.new.worlds.items
          c.index_mut.result.now c.execute_items.new.world c.always.ensures.falls (omega arith) many
          c.copy_down.ensures.worlds c.index_mut.ensures.value
          (rw (c.end.ensures, c.end-in-loop-c.ensures) at c.execute_items.ensures) made;
    }

pub returns-clause-worlds : goal.returns-clause-worlds
returns-clause-worlds g c =
    let none : c.loop-c.c ≡ 0 = (let done = c.loop-c-test.false in omega arith) in
    (subst (λ (n : ℕ). Made g.G.Game.rules c.args.run.now c.args.stale c.args.worlds.now.items n
    c.loop-c.worlds.items)
    none c.loop-c.invariant.made).worlds
